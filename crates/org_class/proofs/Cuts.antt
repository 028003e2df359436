-- Where a text may be cut.
use Rattle.std.proofs.Common.{◌≡◌, ◌≢◌, ℕ, Bool, true, false, ◌&&◌, ◌==◌, eqb, List, [], ◌∷◌, ◌++◌, map, refl, sym, ap, ◌∙◌}
use Rattle.std.proofs.lemmas.Bool.{and_parts, eqb-true}
use Rattle.std.proofs.lemmas.List.{append-nil, map-append}
use Rattle.std.proofs.lemmas.Grind.{flat_map-append}
use Rattle.std.specs.List.{concat, flat_map}
use Rattle.org_settings.specs.Pieces.{put_before}
use Rattle.org_class.specs.Heading.{begins_heading}
use Rattle.org_class.specs.Classes.{section_classes, section_settings}
use Rattle.org_class.specs.Sections.{cut_where, ends_line, sections}
use Rattle.org_class.specs.Laws.{CutsIntoSections, ClassesAreOfSections, SettingLinesAreOfSections}
use Rattle.org_class.proofs.HeadingLemmas.{heading_front}

put_before-append : {X : Type 0} (t : Bool) (x : X) (ps qs : List (List X)) → ps ≢ [] → put_before t x (ps ++ qs) ≡ put_before t x ps ++ qs
put_before-append t x [] qs n = absurd (n refl)
put_before-append true x (p ∷ ps) qs n = refl
put_before-append false x (p ∷ ps) qs n = refl

put_before-nil : {X : Type 0} (t : Bool) (x : X) (ps : List (List X)) → put_before t x ps ≢ []
put_before-nil true x ps e = cc
put_before-nil false x [] e = cc
put_before-nil false x (p ∷ ps) e = cc

-- the cut, where the first part isn't empty
joined : (a b : List ℕ) (x : ℕ) → ends_line (x ∷ a) ≡ true → begins_heading b ≡ true → sections (x ∷ a ++ b) ≡ sections (x ∷ a) ++ sections b
joined [] b x h k = rw (eqb-true x 10 h, k) refl
joined (y ∷ a) b x h k =
    rw (heading_front a b y h, joined a b y h k)
    (put_before-append (eqb x 10 && begins_heading (y ∷ a)) x (sections (y ∷ a)) (sections b) (put_before-nil (eqb y 10 && begins_heading a) y (sections a)))

pub cuts_into_sections : CutsIntoSections
cuts_into_sections [] b h = refl
cuts_into_sections (x ∷ a) [] h = ap sections (append-nil (x ∷ a)) ∙ sym (append-nil (sections (x ∷ a)))
cuts_into_sections (x ∷ a) (y ∷ b) h = let p = and_parts (ends_line (x ∷ a)) (begins_heading (y ∷ b)) h in joined a (y ∷ b) x p.0 p.1

pub classes_of_sections : ClassesAreOfSections
classes_of_sections a b h = ap (map section_classes) (cuts_into_sections a b h) ∙ map-append section_classes (sections a) (sections b)

pub setting_lines_of_sections : SettingLinesAreOfSections
setting_lines_of_sections a b h = ap (flat_map section_settings) (cuts_into_sections a b h) ∙ flat_map-append section_settings (sections a) (sections b)

concat-put_before : (t : Bool) (x : ℕ) (ps : List (List ℕ)) → concat (put_before t x ps) ≡ x ∷ concat ps
concat-put_before true x ps = refl
concat-put_before false x [] = refl
concat-put_before false x (p ∷ ps) = refl

concat-cut_where : (cuts : ℕ → List ℕ → Bool) (t : List ℕ) → concat (cut_where cuts t) ≡ t
concat-cut_where cuts [] = refl
concat-cut_where cuts (x ∷ t) = concat-put_before (cuts x t) x (cut_where cuts t) ∙ ap (λ ys. x ∷ ys) (concat-cut_where cuts t)

-- the sections in order are the text
pub concat-sections : (t : List ℕ) → concat (sections t) ≡ t
concat-sections t = concat-cut_where (λ b bs. (b == 10) && begins_heading bs) t
