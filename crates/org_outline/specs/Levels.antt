-- The levels of entries (Org Syntax, "Headings and Sections": a heading's level is the number of its stars).
use Rattle.std.specs.Prelude.{ℕ, Option, List, map}
use Rattle.std.specs.Option.{option_map}
use Rattle.std.specs.declared.rc.Rc.{Rc}
use Rattle.std.specs.declared.alloc.Global.{Global}
use Rattle.org_entry.specs.declared.entry.Entry.{Entry}

-- the level of an entry; none where it is no heading
abbrev pub level_of : Entry → Option ℕ
level_of e = option_map (λ head. head.level) e.head

-- the levels of entries, in order
abbrev pub levels : List Entry → List (Option ℕ)
levels es = map level_of es

-- the entries that a list shares
abbrev pub held_in : List (Rc Entry Global) → List Entry
held_in list = map (λ shared. shared.value) list
