-- A name that is there keeps its number, and one that isn't gets 0.
use Rattle.std.proofs.Common.{◌≡◌, ◌∙◌, ℕ, true, false, refl, sym, ap}
use Rattle.std.specs.Prelude.{Option, Some, None, is_some}
use Rattle.org_ids.specs.Counts.{asked_too, number_of}
use Rattle.org_ids.proofs.CountLemmas.{put_number, same_number}
use Rattle.org_ids.proofs.counts.NameCounts.ask.Goals as goal

there : (o : Option ℕ) → is_some o ≡ true → asked_too o ≡ o
there None h = absurd cc
there (Some n) h = refl

none_there : (o : Option ℕ) → is_some o ≡ false → asked_too o ≡ Some 0
none_there None h = refl
none_there (Some n) h = absurd cc

pub returns-then-is_some : goal.returns-then-is_some
returns-then-is_some c =
    let is : is_some (number_of c.args.self.now c.args.name.now) ≡ true = sym (ap is_some c.number.ensures.value) ∙ sym c.is_some.ensures ∙ c.if-is_some.true in
    record { ok = λ other. same_number asked_too c.args.self.now c.args.name.now other (there (number_of c.args.self.now c.args.name.now) is) }

pub returns : goal.returns
returns c =
    let is : is_some (number_of c.args.self.now c.args.name.now) ≡ false = sym (ap is_some c.number.ensures.value) ∙ sym c.is_some.ensures ∙ c.if-is_some.false in
    record { ok = put_number asked_too c.args.self.now c.put.new.self c.args.name.now 0 c.in_ok-put.ensures.ok (none_there (number_of c.args.self.now c.args.name.now) is) }
