-- Writing a text anew.
use Rattle.std.specs.Prelude.{ℕ, bytes_eq, if◌then◌else◌, List, Result, Ok, Err}
use Rattle.org_act.specs.declared.act.Refusal.{Refusal}
use Rattle.org_act.specs.declared.act.Refusal.TheVariants as refusal
use Rattle.org_act.specs.declared.rewriting.Rewriting.{Rewriting}

-- the new text, where the old one stands
abbrev pub rewritten : Rewriting → List ℕ → Result (List ℕ) Refusal
rewritten r text = if bytes_eq text r.old.now then Ok r.new.now else Err refusal.Edited
