-- Rows that are shown have lines of their own.
use Rattle.std.proofs.Common.{arith}
use Rattle.std.proofs.lemmas.Bool.Decides.{nat_tests}
use Rattle.org_look.specs.Cells.{RowsHaveLines, OthersHaveALine}

pub rows_have_lines : RowsHaveLines
rows_have_lines shape k shown = grind (arith, nat_tests)

pub others_have_a_line : OthersHaveALine
others_have_a_line shape some = grind (arith, nat_tests)
