-- The entries so far have their categories.
use Rattle.std.proofs.Common.{◌≡◌, map}
use Rattle.std.specs.List.{range_with_len}
use Rattle.org_inherit.specs.Category.{category_under}
use Rattle.org_inherit.proofs.categories.own_categories.Given as goal

abbrev pub invariant-loop-place : goal.invariant-loop-place
invariant-loop-place l = l.categories ≡ map (category_under l.outline l.file_category) (range_with_len 0 l.place)
