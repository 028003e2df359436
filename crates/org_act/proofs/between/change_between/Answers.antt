-- Before and behind what is put in, both texts are the same.
use Rattle.std.proofs.Common.{◌∙◌, ◌≤◌, List, ℕ, subst, arith, length, drop}
use Rattle.std.specs.Prelude.{string_bytes}
use Rattle.org_act.proofs.BetweenLemmas.{ends_are, fronts_are, joined, rest_is}
use Rattle.org_act.proofs.between.change_between.Goals as goal

pub returns-clause-value : goal.returns-clause-value
returns-clause-value c =
    let old = c.args.old.now in
    let new = c.args.new.now in
    let front = c.floor_char_boundary-front.result in
    let back = c.common_back-back.result in
    let rest_old = rest_is c.as_bytes-3.result.now old front c.as_bytes-3.ensures.value in
    let rest_new = rest_is c.as_bytes-4.result.now new front c.as_bytes-4.ensures.value in
    let back_old = subst (λ (t : List ℕ). back ≤ length t) rest_old c.common_back-back.ensures.in_one in
    let back_new = subst (λ (t : List ℕ). back ≤ length t) rest_new c.common_back-back.ensures.in_other in
    let in_old : front ≤ length old = omega (arith, c.floor_char_boundary-front.ensures.bound, subst (λ (t : List ℕ). c.common_front.result ≤ length t) c.as_bytes.ensures.value c.common_front.ensures.in_one) in
    let in_new : front ≤ length new = omega (arith, c.floor_char_boundary-front.ensures.bound, subst (λ (t : List ℕ). c.common_front.result ≤ length t) c.as_bytes-2.ensures.value c.common_front.ensures.in_other) in
    joined old new (string_bytes c.in_ok-from_str.field-0) c.common_front.result front back c.ceil_char_boundary-end.result c.floor_char_boundary-front.ensures.bound
    (fronts_are c.as_bytes.result.now old c.as_bytes-2.result.now new c.common_front.result c.as_bytes.ensures.value c.as_bytes-2.ensures.value c.common_front.ensures.same)
    back_old back_new (ends_are _ (drop front old) _ (drop front new) back rest_old rest_new c.common_back-back.ensures.same) in_old in_new
    (c.ceil_char_boundary-end.ensures.bound (omega (arith))) c.ceil_char_boundary-end.ensures.boundary.0
    (c.in_ok-from_str.ensures.ok ∙ c.range.ensures.value)
