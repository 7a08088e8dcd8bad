use Rattle.setting.proofs.cells.cell_fault.Goals as goal

pub returns : goal.returns
returns c = rw (c.refuse_unless-2.ensures, c.refuse_unless.ensures, c.array.ensures, c.fits-2.ensures, c.fits.ensures, c.slot_sort-sort.ensures)
