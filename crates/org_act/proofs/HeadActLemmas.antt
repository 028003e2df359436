-- A heading line that is changed in its text.
use Rattle.std.proofs.Common.{◌≡◌, ◌≢◌, ◌∙◌, ℕ, ◌+◌, List, ◌++◌, length, take, drop, sym, ap, subst, arith, refl, length-take, append_assoc}
use Rattle.std.specs.Prelude.{Option, Some, None, Result, Ok, Err}
use Rattle.std.proofs.lemmas.List.{drop-drop, take-append-drop}
use Rattle.org_act.specs.Changes.{Makes, no_memory}
use Rattle.org_act.specs.HeadActLaws.{HeadLinesAreChanged, IsHeadChanged}
use Rattle.org_act.specs.HeadActs.{changed_at, changed_in, changed_text, changed_there, changed_whole, with_line}
use Rattle.org_act.specs.Lines.{first_line, heading_at}
use Rattle.org_act.specs.Planning.{heading_line}
use Rattle.org_act.specs.declared.act.Refusal.{Refusal}
use Rattle.org_act.specs.declared.act.Refusal.TheVariants as refusal
use Rattle.org_act.specs.declared.head_act.HeadAct.{HeadAct}
use Rattle.org_act.proofs.PlanLemmas.{sized_is}
use Rattle.org_act.proofs.PlanningLemmas.{heading_there, if_sized_is, split}
use Rattle.org_amend.specs.HeadChanges.{changed_head}
use Rattle.org_amend.specs.declared.head.Unreadable.{Unreadable}
use Rattle.org_amend.specs.declared.head_change.HeadChange.{HeadChange}
use Rattle.org_amend.proofs.HeadChangeLemmas.{heads_are_changed}
use Rattle.org_base.specs.Codes.{memory_fault}
use Rattle.org_base.specs.declared.fault.Fault.{Fault}
use Rattle.org_complete.specs.Completion.{sized}
use Rattle.org_settings.specs.Settings.{FileSettings}
use Rattle.org_stamp.proofs.SpacedLemmas.{drop_front, take_front}
use Rattle.org_store.specs.declared.change.OwnedChange.{OwnedChange}
use Rattle.org_store.specs.Outline.{file_settings}
use Rattle.org_text.specs.Replace.{replace}

-- by what is read

pub head_made : (a : HeadAct) (text whole : List ℕ) (r : Result OwnedChange Refusal) → sized (text ++ a.behind.now) ≡ Ok whole → Makes r text (changed_whole a text whole) → Makes r text (changed_text a text)
unfolding changed_text
head_made a text whole r e h = subst (λ (s : Result (List ℕ) Fault). Makes r text (changed_in a text s)) (sym e) h

pub head_refused : (a : HeadAct) (text : List ℕ) (fault : Fault) → (fault ≢ memory_fault → sized (text ++ a.behind.now) ≡ Err fault) → refusal.Fault fault ≢ no_memory → changed_text a text ≡ Err (refusal.Fault fault)
unfolding changed_text
head_refused a text fault h not_memory = ap (changed_in a text) (h (λ e. not_memory (ap refusal.Fault e)))

pub line_there : (change : HeadChange) (text : List ℕ) (settings : FileSettings) (at : ℕ) (line : List ℕ) (new : Result (List ℕ) Unreadable) → line ≡ heading_line text at → changed_head settings change line ≡ new →
    with_line text at (length line) new ≡ changed_there change text settings at
unfolding changed_there
line_there change text settings at line new is e =
    ap (with_line text at (length line)) (sym e) ∙ ap (λ (l : List ℕ). with_line text at (length l) (changed_head settings change l)) is

-- the whole text

put_in : (front old line rest : List ℕ) → replace (front ++ (old ++ rest)) (length front) (length old) line ≡ front ++ (line ++ rest)
put_in front old line rest =
    let text = front ++ (old ++ rest) in
    let taken : take (length front) text ≡ front = take_front front (old ++ rest) in
    let left : drop (length front + length old) text ≡ rest = sym (drop-drop (length old) (length front) text) ∙ (ap (drop (length old)) (drop_front front (old ++ rest)) ∙ drop_front old rest) in
    ap (λ t. (t ++ line) ++ drop (length front + length old) text) taken ∙ (ap (λ r. (front ++ line) ++ r) left ∙ append_assoc front line rest)

changed_is : (a : HeadAct) (text new : List ℕ) (at : ℕ) (line : List ℕ) → heading_at text a.line ≡ Some at → changed_head (file_settings (text ++ a.behind.now)) a.change (heading_line text at) ≡ Ok line →
    new ≡ replace text at (length (heading_line text at)) line → IsHeadChanged a text new
changed_is a text new at line place e is =
    let found = heading_there text a.line at place in
    let front = take at text in
    let size : length front ≡ at = omega (arith, length-take at text, found.0) in
    let tail = drop at text in
    let old = first_line tail in
    let rest = drop (length old) tail in
    let text_is : text ≡ front ++ (old ++ rest) = sym (take-append-drop at text) ∙ ap (λ t. front ++ t) (split tail) in
    record {
      front = front;
      old = old;
      line = line;
      rest = rest;
      place = place ∙ ap Some (sym size);
      begins = found.1;
      old_is = ap first_line (split tail);
      text_is = text_is;
      new_is = is ∙ (ap (λ t. replace t at (length old) line) text_is ∙ (ap (λ n. replace (front ++ (old ++ rest)) n (length old) line) (sym size) ∙ put_in front old line rest));
      changed = heads_are_changed (file_settings (text ++ a.behind.now)) a.change old line e;
    }

of_line : (a : HeadAct) (text new : List ℕ) (at : ℕ) (line : Result (List ℕ) Unreadable) → heading_at text a.line ≡ Some at → changed_head (file_settings (text ++ a.behind.now)) a.change (heading_line text at) ≡ line →
    with_line text at (length (heading_line text at)) line ≡ Ok new → IsHeadChanged a text new
of_line a text new at (Err why) place e made = absurd cc
of_line a text new at (Ok line) place e made = changed_is a text new at line place e (if_sized_is (replace text at (length (heading_line text at)) line) new made)

of_place : (a : HeadAct) (text new : List ℕ) (found : Option ℕ) → heading_at text a.line ≡ found → changed_at a.change text (file_settings (text ++ a.behind.now)) found ≡ Ok new → IsHeadChanged a text new
unfolding changed_there
of_place a text new None place made = absurd cc
of_place a text new (Some at) place made =
    of_line a text new at (changed_head (file_settings (text ++ a.behind.now)) a.change (heading_line text at)) place refl made

of_whole : (a : HeadAct) (text new : List ℕ) (whole : Result (List ℕ) Fault) → sized (text ++ a.behind.now) ≡ whole → changed_in a text whole ≡ Ok new → IsHeadChanged a text new
of_whole a text new (Err fault) e made = absurd cc
of_whole a text new (Ok whole) e made =
    let same : whole ≡ text ++ a.behind.now = sized_is (text ++ a.behind.now) whole e in
    of_place a text new (heading_at text a.line) refl (ap (λ (w : List ℕ). changed_whole a text w) (sym same) ∙ made)

pub head_lines_are_changed : HeadLinesAreChanged
unfolding changed_text
head_lines_are_changed a text new made = of_whole a text new (sized (text ++ a.behind.now)) refl made
