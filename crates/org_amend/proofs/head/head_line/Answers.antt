-- The line is read back, and what is lost is said.
use Rattle.std.proofs.Common.{rules, ◌≡◌, ◌∙◌, ◌++◌, ◌<◌, ℕ, true, List, length, sym, ap, subst}
use Rattle.std.specs.Prelude.{Ok}
use Rattle.org_amend.proofs.HeadLemmas.{fits, lost, read}
use Rattle.org_amend.specs.Heads.{words_of}
use Rattle.org_amend.proofs.head.head_line.Goals as goal

pub lost_of-requires : goal.lost_of-requires
lost_of-requires c =
    let words = words_of c.args.head.now in
    let text = c.as_bytes.result.now in
    let end = c.args.end.now in
    let one : c.is_line_of.result ≡ true = search rules in
    let line : c.as_bytes-2.result.now ≡ text ++ end = c.as_bytes-2.ensures.value ∙ (c.in_ok-push_str.ensures.bytes ∙ ap (λ (t : List ℕ). t ++ end) (sym c.as_bytes.ensures.value)) in
    let few = fits words text end c.requires.end (sym c.is_line_of.ensures.value ∙ one) in
    record { fits = subst (λ (t : List ℕ). length t < 2147483648) (sym line) few }

pub returns-in-Some-clause-value : goal.returns-in-Some-clause-value
returns-in-Some-clause-value c =
    let words = words_of c.args.head.now in
    let text = c.as_bytes.result.now in
    let end = c.args.end.now in
    let one : c.is_line_of.result ≡ true = search rules in
    let line : c.as_bytes-2.result.now ≡ text ++ end = c.as_bytes-2.ensures.value ∙ (c.in_ok-push_str.ensures.bytes ∙ ap (λ (t : List ℕ). t ++ end) (sym c.as_bytes.ensures.value)) in
    lost c.args.settings.now words end text c.as_bytes-2.result.now c.in-Some.why (c.as_bytes.ensures.value ∙ c.in_ok-line.ensures.value) (sym c.is_line_of.ensures.value ∙ one) line (sym c.in_ok-why.ensures.value ∙ c.in-Some.is)

pub returns-in-None-clause-value : goal.returns-in-None-clause-value
returns-in-None-clause-value c =
    let words = words_of c.args.head.now in
    let text = c.as_bytes.result.now in
    let end = c.args.end.now in
    let one : c.is_line_of.result ≡ true = search rules in
    let line : c.as_bytes-2.result.now ≡ text ++ end = c.as_bytes-2.ensures.value ∙ (c.in_ok-push_str.ensures.bytes ∙ ap (λ (t : List ℕ). t ++ end) (sym c.as_bytes.ensures.value)) in
    ap (λ (l : List ℕ). Ok l) (sym c.as_bytes-2.ensures.value)
    ∙ read c.args.settings.now words end text c.as_bytes-2.result.now (c.as_bytes.ensures.value ∙ c.in_ok-line.ensures.value) (sym c.is_line_of.ensures.value ∙ one) line (sym c.in_ok-why.ensures.value ∙ c.in-None.is)
