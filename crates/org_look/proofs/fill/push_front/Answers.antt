use Rattle.std.proofs.Common.{◌≡◌, ◌∙◌, ◌++◌, [], sym, ap}
use Rattle.std.specs.Str.Iter.{chars_rest}
use Rattle.std.proofs.lemmas.Str.{IsUtf8-past_char}
use Rattle.std.proofs.lemmas.List.{nil_from_length, append-nil}
use Rattle.std.specs.String.{string_bytes}
use Rattle.org_look.proofs.CutLemmas.{front_told, front_stuck, front_end}
use Rattle.org_look.proofs.fill.push_front.Goals as goal

pub returns-then-weight-room : goal.returns-then-weight-room
returns-then-weight-room c =
    let inv = c.loop-c.invariant in
    sym (append-nil _) ∙ ap (λ t. string_bytes c.loop-c.out ++ t) (sym (front_stuck c.loop-c.room c.weight-weight.result _ _ c.in-Some.c c.weight-weight.ensures c.if-weight-room.true inv.utf8 c.in-Some.ensures.steps.0)) ∙ inv.told

pub loop-c-preserved : goal.loop-c-preserved
loop-c-preserved c =
    let inv = c.loop-c.invariant in
    let parts = c.in-Some.ensures.steps.0 in
    record {
      utf8 = IsUtf8-past_char _ _ c.in-Some.c inv.utf8 parts;
      told = front_told c.loop-c.room c.weight-weight.result _ _ c.in-Some.c _ _ _ c.weight-weight.ensures c.if-weight-room.false inv.utf8 parts c.in_ok-push.ensures.bytes inv.told;
    }

pub returns : goal.returns
returns c =
    let inv = c.loop-c.invariant in
    let none : chars_rest c.loop-c.c-iterator ≡ [] = nil_from_length _ c.in-None.ensures.steps.0.0 in
    sym (append-nil _) ∙ ap (λ t. string_bytes c.loop-c.out ++ t) (sym (front_end c.loop-c.room _ none)) ∙ inv.told
