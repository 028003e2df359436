-- What is put after clean lines.
use Rattle.std.proofs.Common.{◌≡◌, ◌∙◌, ℕ, ◌+◌, ◌^◌, ◌<◌, Bool, true, false, cond, ◌⊎◌, inl, inr, List, [], ◌∷◌, ◌++◌, refl, sym, ap, subst, arith, append_assoc, append-nil}
use Rattle.std.specs.Prelude.{decimal}
use Rattle.org_visible.specs.Clean.{IsClean}
use Rattle.org_visible.specs.Visible.{visible}
use Rattle.org_visible.specs.declared.visible.Escape.TheVariants.{Caret}
use Rattle.org_visible.proofs.CleanLemmas.{clean_append, clean_byte, clean_front, visible_is_clean}
use Rattle.org_client.proofs.JsonLemmas.{decimal_clean}
use Rattle.org_answer.specs.Shown.{AddsClean, AreCleanLines, no_line, one_more, IsCleanLine, IsColor, color, color_of, number_text, shown_line, shown_text, title_in}
use Rattle.org_answer.specs.declared.show.PrintOptions.{PrintOptions}
use Rattle.org_layout.specs.declared.shown.Line.{Line}
use Rattle.org_layout.specs.declared.shown.Line.TheVariants.{Day}

ours : (look : PrintOptions) (is_due : Bool) (line : Line) → IsColor (color look is_due line)
ours look is_due line = by look.is_colored
  where
    by : (t : Bool) → IsColor (cond t (color_of is_due line) [])
    by true = inr (is_due, line, refl)
    by false = inl refl

more : (old line new : List ℕ) → IsCleanLine line → new ≡ old ++ line → AreCleanLines old → AreCleanLines new
more old line new is added before = subst AreCleanLines (sym added) (one_more old line before is)

-- a line with a front that has no control character
fronted : (look : PrintOptions) (is_due : Bool) (line : Line) (front text : List ℕ) (is_seen : Bool) → is_seen ≡ true → IsClean front → IsCleanLine (front ++ shown_line (color look is_due line) is_seen text)
fronted look is_due line front text is_seen on clean = record {
  front = front;
  color = color look is_due line;
  text = visible Caret text;
  clean_front = clean;
  is_color = ours look is_due line;
  clean_text = visible_is_clean Caret text;
  made = ap (λ t. front ++ shown_line (color look is_due line) t text) on;
}

pub no_lines : AreCleanLines []
no_lines = no_line

pub keeps_text : (look : PrintOptions) (is_due : Bool) (line : Line) (text old new : List ℕ) → look.is_seen ≡ true → new ≡ old ++ shown_line (color look is_due line) look.is_seen text → AreCleanLines old → AreCleanLines new
keeps_text look is_due line text old new on added = more old (shown_line (color look is_due line) look.is_seen text) new (fronted look is_due line [] text look.is_seen on refl) added

pub keeps_title : (look : PrintOptions) (title old new : List ℕ) → look.is_seen ≡ true → new ≡ old ++ title_in look title → AreCleanLines old → AreCleanLines new
keeps_title look title old new on added = keeps_text look false (Day 1) title old new on added

pub keeps_placed : (look : PrintOptions) (is_due : Bool) (line : Line) (text old between new : List ℕ) → look.is_seen ≡ true → AddsClean old between → new ≡ between ++ shown_line (color look is_due line) look.is_seen text →
    AreCleanLines old → AreCleanLines new
keeps_placed look is_due line text old between new on placed added =
    let shown : List ℕ = shown_line (color look is_due line) look.is_seen text in
    more old (placed.text ++ shown) new (fronted look is_due line placed.text text look.is_seen on placed.clean)
    (added ∙ ap (λ s. s ++ shown) placed.added ∙ append_assoc old placed.text shown)

pub keeps_row : (text old new : List ℕ) → IsClean text → new ≡ old ++ (text ++ 10 ∷ []) → AreCleanLines old → AreCleanLines new
keeps_row text old new clean added =
    more old (text ++ 10 ∷ []) new
    (record {
      front = [];
      color = [];
      text = text;
      clean_front = refl;
      is_color = inl refl;
      clean_text = clean;
      made = ap (λ s. s ++ 10 ∷ []) (sym (append-nil text));
    }) added

-- the number of a line, after a name or alone
number_clean : (number : ℕ) (is_spaced : Bool) → number < 2 ^ 64 → IsClean (number_text number is_spaced)
number_clean number is_spaced small =
    clean_append (58 ∷ decimal number) (58 ∷ cond is_spaced (32 ∷ []) []) (clean_front 58 (decimal number) (omega arith) (omega arith) (decimal_clean number small)) (by is_spaced)
  where
    by : (t : Bool) → IsClean (58 ∷ cond t (32 ∷ []) [])
    by true = refl
    by false = refl

pub places_alone : (number : ℕ) (is_spaced : Bool) (old new : List ℕ) → number < 2 ^ 64 → new ≡ old ++ number_text number is_spaced → AddsClean old new
places_alone number is_spaced old new small added = record { text = number_text number is_spaced; clean = number_clean number is_spaced small; added = added }

pub places_after : (number : ℕ) (is_spaced : Bool) (old between new : List ℕ) → number < 2 ^ 64 → AddsClean old between → new ≡ between ++ number_text number is_spaced → AddsClean old new
places_after number is_spaced old between new small named added = record {
  text = named.text ++ number_text number is_spaced;
  clean = clean_append named.text (number_text number is_spaced) named.clean (number_clean number is_spaced small);
  added = added ∙ ap (λ s. s ++ number_text number is_spaced) named.added ∙ append_assoc old named.text (number_text number is_spaced);
}

seen_clean : (name : List ℕ) (is_seen : Bool) → is_seen ≡ true → IsClean (shown_text is_seen name)
seen_clean name is_seen on = subst (λ t. IsClean (shown_text t name)) (sym on) (visible_is_clean Caret name)

pub names_bare : (name : List ℕ) (is_seen : Bool) (old new : List ℕ) → is_seen ≡ true → new ≡ old ++ shown_text is_seen name → AddsClean old new
names_bare name is_seen old new on added = record { text = shown_text is_seen name; clean = seen_clean name is_seen on; added = added }

pub names_quoted : (name : List ℕ) (is_seen : Bool) (old opened named new : List ℕ) → is_seen ≡ true → opened ≡ old ++ 34 ∷ [] → named ≡ opened ++ shown_text is_seen name →
    new ≡ named ++ 34 ∷ [] → AddsClean old new
names_quoted name is_seen old opened named new on begun shown ended =
    let text : List ℕ = shown_text is_seen name in
    record {
      text = 34 ∷ (text ++ 34 ∷ []);
      clean = clean_front 34 (text ++ 34 ∷ []) (omega arith) (omega arith) (clean_append text (34 ∷ []) (seen_clean name is_seen on) refl);
      added = ended
          ∙ ap (λ s. s ++ 34 ∷ []) (shown ∙ ap (λ s. s ++ text) begun)
          ∙ append_assoc (old ++ 34 ∷ []) text (34 ∷ [])
          ∙ append_assoc old (34 ∷ []) (text ++ 34 ∷ []);
    }

pub places_nothing : (old new : List ℕ) → new ≡ old → AddsClean old new
places_nothing old new same = record { text = []; clean = refl; added = same ∙ sym (append-nil old) }
