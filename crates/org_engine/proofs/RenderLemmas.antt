-- The text of a view and where its lines lead are of one list of lines.
use Rattle.std.proofs.Common.{◌≡◌, ◌∙◌, ℕ, List, Bool, true, false, cond, refl, ap, sym}
use Rattle.std.specs.Prelude.{None, Option, Ok, Err}
use Rattle.org_base.specs.declared.code.Code.TheVariants as code
use Rattle.org_base.specs.declared.fault.Fault.{Fault}
use Rattle.org_base.specs.declared.fault.Fault.TheVariants as fault
use Rattle.org_layout.specs.Shown.{lines_text}
use Rattle.org_engine.specs.PlaceLaws.{AreOfOneList, TextAndPlacesAreOfOneList, files_for, has_efforts, lines_for, scopes_for}
use Rattle.org_engine.specs.Places.{agenda_in, days_shown, line_places}
use Rattle.org_engine.specs.Step.{ClockTable, DayAgenda, MatchList, Query, Refused, Shown, TodoList, Unread, is_missing, render_view}
use Rattle.org_engine.specs.Views.{files_named, world_over}
use Rattle.org_engine.proofs.ListLemmas.{all_files, over_all}
use Rattle.org_engine.specs.Outlines.{scopes_of}
use Rattle.org_engine.specs.World.{WorldView}
use Rattle.org_engine.specs.declared.question.Form.TheVariants.{Places, Text}

-- the text of an agenda, and where its lines lead
days_text : (first count : ℕ) (world : WorldView) →
    agenda_in Text first count world ≡ lines_text false (scopes_of (world_over None world)) (days_shown world.profile (scopes_of world) world.moment.day first count)
days_text first count world =
    ap (λ w. lines_text false (scopes_of w) (days_shown world.profile (scopes_of world) world.moment.day first count)) (sym (over_all world))

days_lead : (first count : ℕ) (world : WorldView) →
    agenda_in Places first count world ≡ line_places (files_named None world.files) (days_shown world.profile (scopes_of world) world.moment.day first count)
days_lead first count world = ap (λ files. line_places files (days_shown world.profile (scopes_of world) world.moment.day first count)) (sym (all_files world.files))

-- what a view answers that may be refused
shown_is : (b : Bool) (f : Fault) (x shown : List ℕ) → cond b (Refused f) (Shown x) ≡ Shown shown → x ≡ shown
shown_is true f x shown e = absurd cc
shown_is false f x shown e = cc

answered_is : (b : Bool) (f : Fault) (x y shown : List ℕ) → cond b (Refused f) (Shown x) ≡ Shown shown → (places : List ℕ) × (cond b (Refused f) (Shown y) ≡ Shown places)
answered_is true f x y shown e = absurd cc
answered_is false f x y shown e = (y, refl)

refused_is : (b : Bool) (f fault : Fault) (x y : List ℕ) → cond b (Refused f) (Shown x) ≡ Refused fault → cond b (Refused f) (Shown y) ≡ Refused fault
refused_is true f fault x y e = e
refused_is false f fault x y e = absurd cc

one_list : (question : Query) (world : WorldView) (b : Bool) (f : Fault) (text places : List ℕ) →
    render_view Text question world ≡ cond b (Refused f) (Shown text) → render_view Places question world ≡ cond b (Refused f) (Shown places) →
    text ≡ lines_text (has_efforts question) (scopes_for question world) (lines_for question world) →
    places ≡ line_places (files_for question world) (lines_for question world) → AreOfOneList question world
one_list question world b f text places t p is at = record {
  text = λ shown e. sym (shown_is b f text shown (sym t ∙ e)) ∙ is;
  places = λ shown e. sym (shown_is b f places shown (sym p ∙ e)) ∙ at;
  answered = λ shown e. let other = answered_is b f text places shown (sym t ∙ e) in (other.0, p ∙ other.1);
  refused = λ fault e. p ∙ refused_is b f fault text places (sym t ∙ e);
}

-- a question that is refused in each form
no_shown : (f : Fault) (shown : List ℕ) → Refused f ≡ Shown shown → ⊥
no_shown f shown e = cc

no_list : (question : Query) (world : WorldView) (f : Fault) → render_view Text question world ≡ Refused f → render_view Places question world ≡ Refused f → AreOfOneList question world
no_list question world f t p = record {
  text = λ shown e. absurd (no_shown f shown (sym t ∙ e));
  places = λ shown e. absurd (no_shown f shown (sym p ∙ e));
  answered = λ shown e. absurd (no_shown f shown (sym t ∙ e));
  refused = λ fault e. p ∙ sym t ∙ e;
}

-- a match list whose expression isn't read: its file is missing, or that is its refusal
unread_fault : Option (List ℕ) → WorldView → Fault → Bool → Fault
unread_fault file world f true = fault.Plain code.Unknown
unread_fault file world f false = f

unread_is : (f : Fault) (b : Bool) (file : Option (List ℕ)) (world : WorldView) → cond b (Refused (fault.Plain code.Unknown)) (Refused f) ≡ Refused (unread_fault file world f b)
unfolding unread_fault
unread_is f true file world = refl
unread_is f false file world = refl

pub of_one_list : TextAndPlacesAreOfOneList
of_one_list (TodoList file words) world =
    one_list (TodoList file words) world (is_missing file world.files) (fault.Plain code.Unknown) _ _ refl refl refl refl
of_one_list (MatchList file (Ok expr)) world =
    one_list (MatchList file (Ok expr)) world (is_missing file world.files) (fault.Plain code.Unknown) _ _ refl refl refl refl
of_one_list (MatchList file (Err f)) world =
    no_list (MatchList file (Err f)) world (unread_fault file world f (is_missing file world.files)) (unread_is f (is_missing file world.files) file world) (unread_is f (is_missing file world.files) file world)
of_one_list (DayAgenda first count) world =
    one_list (DayAgenda first count) world false (fault.Plain code.Unknown) _ _ refl refl (days_text first count world) (days_lead first count world)
of_one_list (ClockTable table) world =
    one_list (ClockTable table) world (is_missing table.file world.files) (fault.Plain code.Unknown) _ _ refl refl refl refl
of_one_list (Unread f) world = no_list (Unread f) world f refl refl
