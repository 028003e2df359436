-- What the lines of a section give to its entry, wherever they stand.
use Rattle.std.proofs.Common.{◌≡◌, ◌∙◌, ℕ, ◌+◌, Bool, true, false, List, [], ◌∷◌, ◌++◌, length, map, refl, sym, ap, arith, append_assoc}
use Rattle.std.specs.Prelude.{Option}
use Rattle.std.specs.List.{flat_map}
use Rattle.std.proofs.lemmas.List.{map-append}
use Rattle.org_act.specs.ClockEntries.{unplaced}
use Rattle.org_class.specs.declared.class.Class.{Class}
use Rattle.org_class.specs.declared.class.Class.TheVariants as class
use Rattle.org_entry.specs.Entry.{head_after, if_active, placed, stamps_of}
use Rattle.org_entry.proofs.EntryWords.{head_from}
use Rattle.org_head.specs.Head.{head_of}
use Rattle.org_head.specs.declared.head.Head.{Head}
use Rattle.org_base.specs.Spans.{bytes_in}
use Rattle.org_settings.specs.Settings.{FileSettings}
use Rattle.org_stamp.specs.Line.{stamps_of as stamps_of_line}
use Rattle.org_stamp.specs.declared.stamp.Found.{Found}
use Rattle.org_stamp.specs.declared.stamp.Stamp.{Stamp}

-- what lines give, by class and bytes
unfoldable pub gives : {X : Type 0} → (Class → List ℕ → List X) → List (List ℕ) → List Class → List X
gives give [] cs = []
gives give (l ∷ ls) [] = []
gives give (l ∷ ls) (c ∷ cs) = give c l ++ gives give ls cs

pub gives_is : {X : Type 0} (give : Class → List ℕ → List X) (at : ℕ) (ls : List (List ℕ)) (cs : List Class) → flat_map (λ l. give l.class l.bytes) (placed at ls cs) ≡ gives give ls cs
unfolding gives
gives_is give at [] cs = refl
gives_is give at (l ∷ ls) [] = refl
gives_is give at (l ∷ ls) (c ∷ cs) = ap (λ xs. give c l ++ xs) (gives_is give (at + length l) ls cs)

pub gives_both : {X : Type 0} (give : Class → List ℕ → List X) (xs ys : List (List ℕ)) (cs ds : List Class) → length cs ≡ length xs → gives give (xs ++ ys) (cs ++ ds) ≡ gives give xs cs ++ gives give ys ds
unfolding gives
gives_both give [] ys [] ds size = refl
gives_both give [] ys (c ∷ cs) ds size = absurd (omega (arith, size))
gives_both give (x ∷ xs) ys [] ds size = absurd (omega (arith, size))
gives_both give (x ∷ xs) ys (c ∷ cs) ds size = ap (λ zs. give c x ++ zs) (gives_both give xs ys cs ds (omega (arith, size))) ∙ sym (append_assoc (give c x) (gives give xs cs) (gives give ys ds))

-- lines of three parts, and others in the place of the second
pub gives_three : {X : Type 0} (give : Class → List ℕ → List X) (xs ys zs : List (List ℕ)) (cs ds es : List Class) → length cs ≡ length xs → length ds ≡ length ys →
    gives give (xs ++ (ys ++ zs)) (cs ++ (ds ++ es)) ≡ gives give xs cs ++ (gives give ys ds ++ gives give zs es)
gives_three give xs ys zs cs ds es one two = gives_both give xs (ys ++ zs) cs (ds ++ es) one ∙ ap (λ r. gives give xs cs ++ r) (gives_both give ys zs ds es two)

-- stamps, up to places

active_given : (at to : ℕ) (fs : List Found) → map unplaced (flat_map (if_active at) fs) ≡ map unplaced (flat_map (if_active to) fs)
active_given at to [] = refl
active_given at to (f ∷ fs) =
    map-append unplaced (if_active at f) (flat_map (if_active at) fs)
    ∙ (ap (λ xs. xs ++ map unplaced (flat_map (if_active at) fs)) (one_active f.stamp.active refl)
    ∙ (ap (λ xs. map unplaced (if_active to f) ++ xs) (active_given at to fs) ∙ sym (map-append unplaced (if_active to f) (flat_map (if_active to) fs))))
  where
    one_active : (b : Bool) → f.stamp.active ≡ b → map unplaced (if_active at f) ≡ map unplaced (if_active to f)
    one_active true is = rw is refl
    one_active false is = rw is refl

abbrev pub stamps_given : FileSettings → Class → List ℕ → List (ℕ × Stamp)
stamps_given settings c l = map unplaced (stamps_of settings 0 c l)

moved_stamps : (settings : FileSettings) (at : ℕ) (c : Class) (l : List ℕ) → map unplaced (stamps_of settings at c l) ≡ stamps_given settings c l
moved_stamps settings at class.Heading l =
    let title = (head_of settings l).title in
    active_given (at + title.at) (0 + title.at) (stamps_of_line (bytes_in l title))
moved_stamps settings at class.Setting l = active_given at 0 (stamps_of_line l)
moved_stamps settings at class.Plain l = active_given at 0 (stamps_of_line l)
moved_stamps settings at class.Planning l = refl
moved_stamps settings at class.DrawerOpen l = refl
moved_stamps settings at class.Node l = refl
moved_stamps settings at class.DrawerEnd l = refl
moved_stamps settings at class.Clock l = refl
moved_stamps settings at class.Comment l = refl
moved_stamps settings at class.BlockOpen l = refl
moved_stamps settings at class.Verbatim l = refl
moved_stamps settings at class.BlockEnd l = refl

pub stamps_is : (settings : FileSettings) (at : ℕ) (ls : List (List ℕ)) (cs : List Class) →
    map unplaced (flat_map (λ l. stamps_of settings l.at l.class l.bytes) (placed at ls cs)) ≡ gives (stamps_given settings) ls cs
unfolding gives
stamps_is settings at [] cs = refl
stamps_is settings at (l ∷ ls) [] = refl
stamps_is settings at (l ∷ ls) (c ∷ cs) =
    map-append unplaced (stamps_of settings at c l) (flat_map (λ l. stamps_of settings l.at l.class l.bytes) (placed (at + length l) ls cs))
    ∙ (ap (λ xs. xs ++ map unplaced (flat_map (λ l. stamps_of settings l.at l.class l.bytes) (placed (at + length l) ls cs))) (moved_stamps settings at c l)
    ∙ ap (λ xs. stamps_given settings c l ++ xs) (stamps_is settings (at + length l) ls cs))

-- the head

unfoldable pub head_over : FileSettings → Option Head → List (List ℕ) → List Class → Option Head
head_over settings so_far [] cs = so_far
head_over settings so_far (l ∷ ls) [] = so_far
head_over settings so_far (l ∷ ls) (c ∷ cs) = head_over settings (head_after settings so_far c l) ls cs

pub head_is : (settings : FileSettings) (so_far : Option Head) (at : ℕ) (ls : List (List ℕ)) (cs : List Class) → head_from settings so_far (placed at ls cs) ≡ head_over settings so_far ls cs
unfolding head_over
head_is settings so_far at [] cs = refl
head_is settings so_far at (l ∷ ls) [] = refl
head_is settings so_far at (l ∷ ls) (c ∷ cs) = head_is settings (head_after settings so_far c l) (at + length l) ls cs

pub head_both : (settings : FileSettings) (so_far : Option Head) (xs ys : List (List ℕ)) (cs ds : List Class) → length cs ≡ length xs →
    head_over settings so_far (xs ++ ys) (cs ++ ds) ≡ head_over settings (head_over settings so_far xs cs) ys ds
unfolding head_over
head_both settings so_far [] ys [] ds size = refl
head_both settings so_far [] ys (c ∷ cs) ds size = absurd (omega (arith, size))
head_both settings so_far (x ∷ xs) ys [] ds size = absurd (omega (arith, size))
head_both settings so_far (x ∷ xs) ys (c ∷ cs) ds size = head_both settings (head_after settings so_far c x) xs ys cs ds (omega (arith, size))
