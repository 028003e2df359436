-- What an outline holds (profile).
use Rattle.std.specs.Prelude.{List, [], Option, Some, None}
use Rattle.std.specs.declared.alloc.Global.{Global}
use Rattle.std.specs.declared.rc.Rc.{Rc}
use Rattle.org_entry.specs.declared.entry.Entry.{Entry}
use Rattle.org_outline.specs.declared.body.Body.{Body}

-- the entries of a shared body; without one there are none
abbrev pub held : Option (Rc Body Global) → List Entry
held None = []
held (Some b) = b.value
