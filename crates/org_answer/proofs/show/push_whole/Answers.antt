-- A line without control characters and its feed stand after clean lines.
use Rattle.std.proofs.Common.{◌≡◌, ◌++◌, ◌∷◌, ◌∙◌, [], List, ℕ, ap, append_assoc, rules, subst}
use Rattle.org_visible.specs.Clean.{IsClean}
use Rattle.org_answer.proofs.ShownLemmas.{keeps_row}
use Rattle.org_answer.proofs.show.push_whole.Goals as goal

pub returns-clause-clean : goal.returns-clause-clean
returns-clause-clean c =
    let old : List ℕ = c.args.out.now.items in
    let line : List ℕ = c.args.line.now in
    let clean : IsClean line = subst IsClean c.as_slice.ensures.value c.as_slice.ensures.line in
    let extended : c.extend_from_slice.new.self.items ≡ old ++ line = search rules in
    let pushed : c.push.new.self.items ≡ c.extend_from_slice.new.self.items ++ 10 ∷ [] = search rules in
    keeps_row line old c.push.new.self.items clean (pushed ∙ ap (λ s. s ++ 10 ∷ []) extended ∙ append_assoc old line (10 ∷ []))
