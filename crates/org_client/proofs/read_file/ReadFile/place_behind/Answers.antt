-- No text has as many sections.
use Rattle.std.proofs.Common.{◌+◌, ◌≤◌, ◌^◌, inl, inr, length, sym, subst, arith}
use Rattle.std.proofs.lemmas.Bool.{cases_lt}
use Rattle.org_class.specs.Sections.{sections}
use Rattle.org_client.specs.Files.{NamedText}
use Rattle.org_client.proofs.OwnLemmas.{few_sections, none_there}
use Rattle.org_text.specs.Replace.{max_bytes}
use Rattle.org_client.proofs.read_file.ReadFile.place_behind.Goals as goal

pub returns-in-None : goal.returns-in-None
returns-in-None g c =
    let text = c.args.self.now.text in
    let short : length text ≤ max_bytes = subst (λ (v : NamedText). length v.text ≤ max_bytes) c.self.view_is c.self.invariant.short in
    let past : length (sections text) ≤ c.args.heading + 1 = elim (cases_lt (c.args.heading + 1) (2 ^ 64)) [
      | inl low ↦ absurd (c.in-None.ensures low)
      | inr high ↦ omega (arith, high, short, few_sections text)
    ] in
    record { value = sym (none_there text (c.args.heading + 1) past) }
