-- A section of a text whose lines change.
use Rattle.std.proofs.Common.{◌≡◌, ◌∙◌, inl, inr, ℕ, zero, suc, ◌<◌, ◌≤◌, ◌==◌, Bool, true, false, List, [], ◌∷◌, ◌++◌, length, take, drop, get_or, map, refl, sym, ap, subst, arith}
use Rattle.std.specs.Prelude.{codes, if◌then◌else◌}
use Rattle.std.specs.List.{concat, flat_map, list_all, list_any}
use Rattle.std.proofs.lemmas.Bool.{and_from, and_parts, cases_Bool, eqb-true}
use Rattle.std.proofs.lemmas.Grind.{flat_map-append}
use Rattle.std.proofs.lemmas.List.{length-map}
use Rattle.std.proofs.lemmas.List.Folds.{concat-append}
use Rattle.org_act.proofs.GivenLemmas.{gives, gives_three}
use Rattle.org_base.specs.Words.{is_blank, is_gap, is_space}
use Rattle.org_amend.proofs.ClockLineLemmas.{clock_line_is}
use Rattle.org_class.specs.Classes.{is_setting_class, lines_of_setting, section_classes, section_settings, setting_lines}
use Rattle.org_class.specs.Heading.{begins_heading}
use Rattle.org_class.specs.Sections.{ends_line, is_cut, is_headed, runs, sections}
use Rattle.org_class.specs.declared.class.Class.{Class}
use Rattle.org_class.proofs.Boundaries.{AreSections, are_sections, heading_of_section, sections-concat}
use Rattle.org_class.proofs.Runs.{sections_are_runs}
use Rattle.org_lines.specs.Cuts.{lines}
use Rattle.org_lines.proofs.LineLemmas.{concat-lines}
use Rattle.org_settings.specs.Pieces.{put_before}
use Rattle.org_stamp.specs.Pair.{is_clock}

-- sections of which one is replaced

own_cut : (old own rest : List ℕ) → begins_heading own ≡ true → (ends_line old ≡ true → ends_line own ≡ true) → is_cut old rest ≡ true → begins_heading old ≡ true → is_cut own rest ≡ true
own_cut old [] rest begins ends cut begun = refl
own_cut old (x ∷ own) [] begins ends cut begun = refl
own_cut [] (x ∷ own) (y ∷ rest) begins ends cut begun = absurd (let wrong : false ≡ true = begun in cc)
own_cut (z ∷ old) (x ∷ own) (y ∷ rest) begins ends cut begun =
    let both = and_parts (ends_line (z ∷ old)) (begins_heading (y ∷ rest)) cut in
    and_from (ends_line (x ∷ own)) (begins_heading (y ∷ rest)) (ends both.0) both.1

front_same : (s rest : List ℕ) → sections s ≡ s ∷ [] → is_cut s rest ≡ true → begins_heading (s ++ rest) ≡ begins_heading s
front_same [] rest one cut = absurd (let wrong : [] ≡ [] ∷ [] = one in cc)
front_same (y ∷ s) rest one cut = heading_of_section y s rest cut

cut_moved : (b a c : List ℕ) → (a ≡ [] → ⊥) → begins_heading a ≡ begins_heading c → is_cut b a ≡ true → is_cut b c ≡ true
cut_moved [] a c some same cut = refl
cut_moved (x ∷ b) a [] some same cut = refl
cut_moved (x ∷ b) [] (z ∷ c) some same cut = absurd (some refl)
cut_moved (x ∷ b) (y ∷ a) (z ∷ c) some same cut =
    let both = and_parts (ends_line (x ∷ b)) (begins_heading (y ∷ a)) cut in
    and_from (ends_line (x ∷ b)) (begins_heading (z ∷ c)) both.0 (sym same ∙ both.1)

some_begun : (s rest : List ℕ) → begins_heading s ≡ true → s ++ rest ≡ [] → ⊥
some_begun [] rest begins e = (let wrong : false ≡ true = begins in cc)
some_begun (x ∷ s) rest begins e = cc

some_section : (s rest : List ℕ) → sections s ≡ s ∷ [] → s ++ rest ≡ [] → ⊥
some_section [] rest one e = (let wrong : [] ≡ [] ∷ [] = one in cc)
some_section (x ∷ s) rest one e = cc

put_sections : (before : List (List ℕ)) (old own : List ℕ) (after : List (List ℕ)) → begins_heading old ≡ true → begins_heading own ≡ true → sections own ≡ own ∷ [] → (ends_line old ≡ true → ends_line own ≡ true) →
    AreSections (before ++ old ∷ after) → AreSections (before ++ own ∷ after)
put_sections [] old own after begun begins one ends h = (one, own_cut old own (concat after) begins ends h.1 begun, h.2)
put_sections (b ∷ []) old own after begun begins one ends h =
    let more = put_sections [] old own after begun begins one ends h.2 in
    let was : begins_heading (old ++ concat after) ≡ true = front_same old (concat after) h.2.0 h.2.1 ∙ begun in
    let is : begins_heading (own ++ concat after) ≡ true = front_same own (concat after) one more.1 ∙ begins in
    (h.0, cut_moved b (old ++ concat after) (own ++ concat after) (some_begun old (concat after) begun) (was ∙ sym is) h.1, more)
put_sections (b ∷ c ∷ before) old own after begun begins one ends h =
    let more = put_sections (c ∷ before) old own after begun begins one ends h.2 in
    let a = concat (before ++ old ∷ after) in
    let e = concat (before ++ own ∷ after) in
    let same : begins_heading (c ++ a) ≡ begins_heading (c ++ e) = front_same c a h.2.0 h.2.1 ∙ sym (front_same c e h.2.0 more.1) in
    (h.0, cut_moved b (c ++ a) (c ++ e) (some_section c a h.2.0) same h.1, more)

-- lines of which none but the first is a heading line

some_put : (b : Bool) (x : List ℕ) (ps : List (List (List ℕ))) → 1 ≤ length (put_before b x ps)
some_put true x ps = omega arith
some_put false x [] = omega arith
some_put false x (p ∷ ps) = omega arith

put_count : (x : List ℕ) (ps : List (List (List ℕ))) → 1 ≤ length ps → length (put_before false x ps) ≡ length ps
put_count x [] h = absurd (omega (arith, h))
put_count x (p ∷ ps) h = refl

none_headed : (l : List ℕ) (ls : List (List ℕ)) → length (runs (l ∷ ls)) ≡ 1 → list_any begins_heading ls ≡ false
none_headed l [] h = refl
none_headed l (m ∷ ms) h = elim (cases_Bool (begins_heading m)) [
  | inl e ↦ (
      let two : suc (length (runs (m ∷ ms))) ≡ 1 = rw e at h in
      let some = some_put (is_headed ms) m (runs ms) in
      absurd (omega (arith, two, some)))
  | inr e ↦
      let same : length (put_before false l (runs (m ∷ ms))) ≡ 1 = rw e at h in
      rw e (none_headed m ms (sym (put_count l (runs (m ∷ ms)) (some_put (is_headed ms) m (runs ms))) ∙ same))
]

one_run : (l : List ℕ) (ls : List (List ℕ)) → list_any begins_heading ls ≡ false → runs (l ∷ ls) ≡ (l ∷ ls) ∷ []
one_run l [] h = refl
one_run l (m ∷ ms) h = elim (cases_Bool (begins_heading m)) [
  | inl e ↦ absurd (let wrong : true ≡ false = rw e at h in cc)
  | inr e ↦ rw e (ap (put_before false l) (one_run m ms (rw e at h)))
]

pub inner_lines : (s b : List ℕ) (ls : List (List ℕ)) → sections s ≡ s ∷ [] → lines s ≡ b ∷ ls → list_any begins_heading ls ≡ false
inner_lines s b ls one is =
    let count : length (runs (lines s)) ≡ 1 = sym (length-map (runs (lines s)) concat) ∙ (sym (ap length (sections_are_runs s).0) ∙ ap length one) in
    none_headed b ls (ap (λ xs. length (runs xs)) (sym is) ∙ count)

pub one_section : (s b : List ℕ) (ls : List (List ℕ)) → lines s ≡ b ∷ ls → list_any begins_heading ls ≡ false → sections s ≡ s ∷ []
one_section s b ls is none =
    (sections_are_runs s).0
    ∙ (ap (λ xs. map concat (runs xs)) is
    ∙ (ap (map concat) (one_run b ls none) ∙ ap (λ (t : List ℕ). t ∷ []) (ap concat (sym is) ∙ concat-lines s)))

-- lines that are no heading lines

gap_begins : (b : ℕ) (bs : List ℕ) → is_gap b ≡ true → begins_heading (b ∷ bs) ≡ false
gap_begins b bs gap = elim (cases_Bool (b == 42)) [
  | inl e ↦ absurd (let is : b ≡ 42 = eqb-true b 42 e in let wrong : false ≡ true = ap is_gap (sym is) ∙ gap in cc)
  | inr e ↦ rw e refl
]

pub blank_begins : (l : List ℕ) → is_blank l ≡ true → begins_heading l ≡ false
blank_begins [] h = refl
blank_begins (b ∷ bs) h = gap_begins b bs (and_parts (is_gap b) (list_all is_gap bs) h).0

space_gap : (b : ℕ) → is_space b ≡ true → is_gap b ≡ true
space_gap b h = rw h refl

clock_begins_by : (l gap rest : List ℕ) → l ≡ gap ++ (codes "CLOCK:" ++ rest) → list_all is_space gap ≡ true → begins_heading l ≡ false
clock_begins_by l [] rest is gap = ap begins_heading is
clock_begins_by l (b ∷ gap) rest is h = ap begins_heading is ∙ gap_begins b (gap ++ (codes "CLOCK:" ++ rest)) (space_gap b (and_parts (is_space b) (list_all is_space gap) h).0)

pub clock_begins : (l : List ℕ) → is_clock l ≡ true → begins_heading l ≡ false
clock_begins l is = let h = clock_line_is l is in clock_begins_by l h.gap h.rest h.line_is h.gap_is

-- setting lines

abbrev pub setting_given : Class → List ℕ → List (List ℕ)
setting_given c l = if is_setting_class c then l ∷ [] else []

settings_is : (ls : List (List ℕ)) (cs : List Class) → lines_of_setting ls cs ≡ gives setting_given ls cs
unfolding gives
settings_is [] cs = refl
settings_is (l ∷ ls) [] = refl
settings_is (l ∷ ls) (c ∷ cs) = elim (cases_Bool (is_setting_class c)) [
  | inl e ↦ rw e (ap (λ xs. l ∷ xs) (settings_is ls cs))
  | inr e ↦ rw e (settings_is ls cs)
]

pub same_settings : (old own : List ℕ) (xs ys vs zs : List (List ℕ)) (cs ds fs es : List Class) → length cs ≡ length xs → length ds ≡ length ys → length fs ≡ length vs →
    lines old ≡ xs ++ (ys ++ zs) → section_classes old ≡ cs ++ (ds ++ es) → lines own ≡ xs ++ (vs ++ zs) → section_classes own ≡ cs ++ (fs ++ es) →
    gives setting_given ys ds ≡ [] → gives setting_given vs fs ≡ [] → section_settings own ≡ section_settings old
same_settings old own xs ys vs zs cs ds fs es one two three was_lines was_classes are_lines are_classes none_were none_are =
    let was : section_settings old ≡ gives setting_given xs cs ++ ([] ++ gives setting_given zs es) =
    settings_is (lines old) (section_classes old)
    ∙ (ap (λ ls. gives setting_given ls (section_classes old)) was_lines
    ∙ (ap (gives setting_given (xs ++ (ys ++ zs))) was_classes
    ∙ (gives_three setting_given xs ys zs cs ds es one two ∙ ap (λ m. gives setting_given xs cs ++ (m ++ gives setting_given zs es)) none_were))) in
    let is : section_settings own ≡ gives setting_given xs cs ++ ([] ++ gives setting_given zs es) =
    settings_is (lines own) (section_classes own)
    ∙ (ap (λ ls. gives setting_given ls (section_classes own)) are_lines
    ∙ (ap (gives setting_given (xs ++ (vs ++ zs))) are_classes
    ∙ (gives_three setting_given xs vs zs cs fs es one three ∙ ap (λ m. gives setting_given xs cs ++ (m ++ gives setting_given zs es)) none_are))) in
    is ∙ sym was

-- the whole text

pub record ArePut (before : List (List ℕ)) (own : List ℕ) (after : List (List ℕ)) (text new : List ℕ) : Type 0 where
  pub sections_are : sections new ≡ before ++ own ∷ after
  pub settings_are : setting_lines new ≡ setting_lines text

pub put_text : (before : List (List ℕ)) (old own : List ℕ) (after : List (List ℕ)) (text new : List ℕ) → sections text ≡ before ++ old ∷ after → begins_heading old ≡ true → begins_heading own ≡ true →
    sections own ≡ own ∷ [] → (ends_line old ≡ true → ends_line own ≡ true) → section_settings own ≡ section_settings old → new ≡ concat before ++ (own ++ concat after) → ArePut before own after text new
put_text before old own after text new were begun begins one ends settings is =
    let parts : AreSections (before ++ old ∷ after) = subst AreSections were (are_sections text) in
    let put = put_sections before old own after begun begins one ends parts in
    let joined : new ≡ concat (before ++ own ∷ after) = is ∙ sym (concat-append before (own ∷ after)) in
    let sections_are : sections new ≡ before ++ own ∷ after = ap sections joined ∙ sections-concat (before ++ own ∷ after) put in
    let line : (s : List ℕ) → flat_map section_settings (before ++ s ∷ after) ≡ flat_map section_settings before ++ (section_settings s ++ flat_map section_settings after) = λ s.
    flat_map-append section_settings before (s ∷ after) in
    record {
      sections_are = sections_are;
      settings_are =
          ap (flat_map section_settings) sections_are
          ∙ (line own
          ∙ (ap (λ x. flat_map section_settings before ++ (x ++ flat_map section_settings after)) settings ∙ sym (ap (flat_map section_settings) were ∙ line old)));
    }

-- the section at a place
pub at_place : (ss : List (List ℕ)) (place : ℕ) → place < length ss → ss ≡ take place ss ++ get_or ss place [] ∷ drop (suc place) ss
at_place [] place lt = absurd (omega (arith, lt))
at_place (s ∷ ss) zero lt = refl
at_place (s ∷ ss) (suc k) lt = ap (λ xs. s ∷ xs) (at_place ss k (omega (arith, lt)))
