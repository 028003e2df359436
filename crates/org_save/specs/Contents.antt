-- What the files hold after what a program did. A rename is one step in it.
use Rattle.std.specs.Prelude.{⊤, ℕ, List, [], ◌∷◌, ◌++◌}
use Rattle.org_save.specs.Events.{Event, made, gave_access, wrote, tore, synced, found, found_former, renamed, removed, listed, restored}
use Rattle.org_save.specs.declared.name.Name.{Name}
use Rattle.org_save.specs.declared.name.Name.TheVariants.{Target, Temporary, Rescue}

pub data Content : Type 0 where
  -- there is no file of that name
  absent : Content
  -- no one can say: a write failed, or power may have gone
  torn : Content
  -- a reader finds these bytes, and a loss of power may tear them
  written : List ℕ → Content
  -- these bytes are on the disk
  kept : List ℕ → Content

pub record Contents : Type 0 where
  pub target : Content
  pub temporary : Content
  pub rescue : Content

abbrev pub content_at : Name → Contents → Content
content_at Target c = c.target
content_at Temporary c = c.temporary
content_at Rescue c = c.rescue

abbrev pub with_content : Name → Content → Contents → Contents
with_content Target now c = record c { target = now }
with_content Temporary now c = record c { temporary = now }
with_content Rescue now c = record c { rescue = now }

-- with bytes at the end
abbrev pub lengthened : List ℕ → Content → Content
lengthened bytes absent = torn
lengthened bytes torn = torn
lengthened bytes (written front) = written (front ++ bytes)
lengthened bytes (kept front) = written (front ++ bytes)

abbrev pub settled : Content → Content
settled absent = absent
settled torn = torn
settled (written bytes) = kept bytes
settled (kept bytes) = kept bytes

abbrev pub after_event : Event → Contents → Contents
after_event (made a) c = with_content a (written []) c
after_event (gave_access a) c = c
after_event (wrote a bytes) c = with_content a (lengthened bytes (content_at a c)) c
after_event (tore a) c = with_content a torn c
after_event (synced a) c = with_content a (settled (content_at a c)) c
after_event (found a bytes) c = c
after_event (found_former bytes) c = c
after_event (renamed a b) c = with_content a absent (with_content b (content_at a c) c)
after_event (removed a) c = with_content a absent c
after_event listed c = c
after_event (restored bytes) c = with_content Target (kept bytes) c

-- after these events, the newest first
abbrev pub after_events : Contents → List Event → Contents
after_events c [] = c
after_events c (e ∷ es) = after_event e (after_events c es)

-- other names
abbrev pub Differ : Name → Name → Type 0
Differ Target Target = ⊥
Differ Temporary Temporary = ⊥
Differ Rescue Rescue = ⊥
Differ a b = ⊤

-- an event that leaves what a file holds as it is
abbrev pub Leaves : Name → Event → Type 0
Leaves a (made b) = Differ a b
Leaves a (gave_access b) = ⊤
Leaves a (wrote b bytes) = Differ a b
Leaves a (tore b) = Differ a b
Leaves a (synced b) = Differ a b
Leaves a (found b bytes) = ⊤
Leaves a (found_former bytes) = ⊤
Leaves a (renamed b c) = Differ a b × Differ a c
Leaves a (removed b) = Differ a b
Leaves a listed = ⊤
Leaves a (restored bytes) = Differ a Target

-- events that all leave it so
abbrev pub LeaveAll : Name → List Event → Type 0
LeaveAll a [] = ⊤
LeaveAll a (e ∷ done) = Leaves a e × LeaveAll a done
