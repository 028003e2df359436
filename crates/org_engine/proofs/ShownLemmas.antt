-- The files that a view is over.
use Rattle.std.proofs.Common.{◌≡◌, ◌∙◌, ℕ, zero, suc, ◌+◌, ◌<◌, ◌≤◌, Bool, true, false, cond, List, [], ◌∷◌, ◌++◌, length, drop, map, refl, subst, sym, ap, arith, append_assoc, append-nil, inl, inr, ◌⊎◌}
use Rattle.std.specs.Prelude.{None, Option, Some, slice_get}
use Rattle.std.specs.List.{All, AllZip}
use Rattle.std.proofs.lemmas.List.{drop_all, drop_more, length-map}
use Rattle.std.proofs.lemmas.Option.{get_or_from_slice_get}
use Rattle.org_agenda.specs.Headings.{AllHaveHeads}
use Rattle.org_agenda.specs.Near.{IsSound}
use Rattle.org_agenda.specs.Sources.{sources_of}
use Rattle.org_base.specs.declared.limits.TheConstants.{MOST_FILES}
use Rattle.org_agenda.proofs.BoundLemmas.{rows_are_of_near}
use Rattle.org_agenda.proofs.SoundLemmas.{AreReadOf, read_sound}
use Rattle.org_class.specs.Sections.{sections}
use Rattle.org_near.specs.Stamps.{IsOf}
use Rattle.org_store.specs.Outline.{OutlineView, file_settings, outline_of, scope_of}
use Rattle.org_inherit.specs.Scope.{Scope}
use Rattle.org_sum.specs.Texts.{AreOfText}
use Rattle.org_text.specs.Replace.{max_bytes}
use Rattle.org_engine.proofs.HeadLemmas.{file_heads, first_heads}
use Rattle.org_engine.specs.Tables.{AreShort}
use Rattle.org_engine.specs.Views.{is_wanted, scopes_named, scopes_over, wanted_scope}
use Rattle.org_engine.specs.Examined.{RowsAreExamined, near_in_world}
use Rattle.org_engine.specs.Outlines.{AreRead, outlines_of, scopes_of}
use Rattle.org_engine.proofs.ListLemmas.{all_named, over_all}
use Rattle.org_engine.specs.World.{FileView, WorldView}

-- what is left at a place
pub left : {X : Type 0} (xs : List X) (i : ℕ) (x : X) → i < length xs → slice_get xs i ≡ Some x → drop i xs ≡ x ∷ drop (i + 1) xs
left xs i x lt there = drop_more xs i x lt ∙ ap (λ y. y ∷ drop (i + 1) xs) (get_or_from_slice_get xs i x x there)

-- one file more of those that a view is over
named_next : (wanted : Option (List ℕ)) (scope : Scope) (rest : List Scope) → scopes_named wanted (scope ∷ rest) ≡ wanted_scope wanted scope ++ scopes_named wanted rest
named_next wanted scope rest = by (is_wanted wanted scope.file)
  where
    by : (t : Bool) → cond t (scope ∷ scopes_named wanted rest) (scopes_named wanted rest) ≡ cond t (scope ∷ []) [] ++ scopes_named wanted rest
    by true = refl
    by false = refl

pub named_more : (wanted : Option (List ℕ)) (f : FileView → Scope) (files : List FileView) (i : ℕ) (file : FileView) (old new all : List Scope) → i < length files → slice_get files i ≡ Some file →
    new ≡ old ++ wanted_scope wanted (f file) → old ++ scopes_named wanted (map f (drop i files)) ≡ all → new ++ scopes_named wanted (map f (drop (i + 1) files)) ≡ all
named_more wanted f files i file old new all lt there pushed so_far =
    let rest : List Scope = scopes_named wanted (map f (drop (i + 1) files)) in
    ap (λ xs. xs ++ rest) pushed ∙ append_assoc old (wanted_scope wanted (f file)) rest
    ∙ ap (λ xs. old ++ xs) (sym (named_next wanted (f file) (map f (drop (i + 1) files))))
    ∙ ap (λ fs. old ++ scopes_named wanted (map f fs)) (sym (left files i file lt there)) ∙ so_far

pub named_all : (wanted : Option (List ℕ)) (f : FileView → Scope) (files : List FileView) (i : ℕ) (inherits all : List Scope) → length files ≤ i →
    inherits ++ scopes_named wanted (map f (drop i files)) ≡ all → inherits ≡ all
named_all wanted f files i inherits all le so_far =
    sym (append-nil inherits) ∙ ap (λ fs. inherits ++ scopes_named wanted (map f fs)) (sym (drop_all i files le)) ∙ so_far

-- a file that a view isn't over is left out, and one that it is over stands after the others
pub unwanted : (wanted : Option (List ℕ)) (scope : Scope) (old : List Scope) → is_wanted wanted scope.file ≡ false → old ≡ old ++ wanted_scope wanted scope
unwanted wanted scope old isnt = sym (append-nil old) ∙ ap (λ b. old ++ cond b (scope ∷ []) []) (sym isnt)

pub wanted_one : (wanted : Option (List ℕ)) (scope : Scope) (old : List Scope) → is_wanted wanted scope.file ≡ true → old ++ scope ∷ [] ≡ old ++ wanted_scope wanted scope
wanted_one wanted scope old is = ap (λ b. old ++ cond b (scope ∷ []) []) (sym is)

-- a view is over no more files than there are
pub named_few : (wanted : Option (List ℕ)) (scopes : List Scope) → length (scopes_named wanted scopes) ≤ length scopes
named_few wanted [] = omega arith
named_few wanted (scope ∷ rest) = by (is_wanted wanted scope.file) (named_few wanted rest)
  where
    by : (t : Bool) → length (scopes_named wanted rest) ≤ length rest → length (cond t (scope ∷ scopes_named wanted rest) (scopes_named wanted rest)) ≤ suc (length rest)
    by true h = omega (arith, h)
    by false h = omega (arith, h)

one_first : {X : Type 0} (P : X → Type 0) (x : X) (xs : List X) → P x → All P xs → All P (x ∷ xs)
one_first P x xs first rest zero d lt = first
one_first P x xs first rest (suc k) d lt = rest k d (omega (arith, lt))

-- each of them is one text's
named_texts : (wanted : Option (List ℕ)) (inherited : List (List ℕ)) (files : List FileView) → AreShort files →
    All (λ (s : Scope). AreOfText s.entries) (scopes_named wanted (map (λ (f : FileView). scope_of inherited f.name f.text) files))
named_texts wanted inherited [] short = λ k d lt. absurd (omega (arith, lt))
named_texts wanted inherited (f ∷ fs) short = by (is_wanted wanted f.name) (named_texts wanted inherited fs (λ i file there. short (suc i) file there))
  where
    scope : Scope
    scope = scope_of inherited f.name f.text

    rest : List Scope
    rest = scopes_named wanted (map (λ (g : FileView). scope_of inherited g.name g.text) fs)

    by : (t : Bool) → All (λ (s : Scope). AreOfText s.entries) rest → All (λ (s : Scope). AreOfText s.entries) (cond t (scope ∷ rest) rest)
    by true h = one_first (λ (s : Scope). AreOfText s.entries) scope rest (record { settings = file_settings f.text; text = f.text; short = short 0 f refl; are = refl }) h
    by false h = h

cases_last : (k n : ℕ) → k < n + 1 → (k < n) ⊎ (k ≡ n)
cases_last k n h = grind arith

-- one text more that is short
pub short_more : (files : List FileView) (n : ℕ) (file : FileView) → slice_get files n ≡ Some file → length file.text ≤ max_bytes →
    ((i : ℕ) (f : FileView) → i < n → slice_get files i ≡ Some f → length f.text ≤ max_bytes) →
    (i : ℕ) (f : FileView) → i < n + 1 → slice_get files i ≡ Some f → length f.text ≤ max_bytes
short_more files n file there short before i f lt at = by (cases_last i n lt)
  where
    by : (i < n) ⊎ (i ≡ n) → length f.text ≤ max_bytes
    by (inl l) = before i f l at
    by (inr e) =
        let both : Some file ≡ Some f = sym there ∙ (ap (slice_get files) (sym e) ∙ at) in
        let same : file ≡ f = cc in
        omega (arith, short, ap (λ (g : FileView). length g.text) same)

-- a place at which a file stands is among the files
pub there_within : {X : Type 0} (xs : List X) (i : ℕ) (x : X) → slice_get xs i ≡ Some x → i < length xs
there_within [] i x at = absurd cc
there_within (y ∷ ys) zero x at = omega arith
there_within (y ∷ ys) (suc i) x at = omega (arith, there_within ys i x at)

-- the heads of each are those of its lines
named_heads : (wanted : Option (List ℕ)) (inherited : List (List ℕ)) (files : List FileView) → AllHaveHeads (scopes_named wanted (map (λ (f : FileView). scope_of inherited f.name f.text) files))
named_heads wanted inherited [] = λ k scope there. absurd cc
named_heads wanted inherited (f ∷ fs) = by (is_wanted wanted f.name) (named_heads wanted inherited fs)
  where
    first : Scope
    first = scope_of inherited f.name f.text

    rest : List Scope
    rest = scopes_named wanted (map (λ (g : FileView). scope_of inherited g.name g.text) fs)

    by : (t : Bool) → AllHaveHeads rest → AllHaveHeads (cond t (first ∷ rest) rest)
    by true h = first_heads first rest (file_heads inherited f) h
    by false h = h

-- the entries of each are read of its sections
named_sections : (wanted : Option (List ℕ)) (inherited : List (List ℕ)) (files : List FileView) → AreReadOf (scopes_named wanted (map (λ (f : FileView). scope_of inherited f.name f.text) files))
named_sections wanted inherited [] = tt
named_sections wanted inherited (f ∷ fs) = by (is_wanted wanted f.name) (named_sections wanted inherited fs)
  where
    first : Scope
    first = scope_of inherited f.name f.text

    rest : List Scope
    rest = scopes_named wanted (map (λ (g : FileView). scope_of inherited g.name g.text) fs)

    by : (t : Bool) → AreReadOf rest → AreReadOf (cond t (first ∷ rest) rest)
    by true h = ((file_settings f.text, sections f.text, refl), h)
    by false h = h

-- what inheritance looks at in files is what they say
zip_files : (inherited : List (List ℕ)) (files : List FileView) → AllZip IsOf (map (λ (f : FileView). outline_of f.text) files) (map (λ (f : FileView). scope_of inherited f.name f.text) files)
zip_files inherited [] = tt
zip_files inherited (f ∷ fs) = ((refl, refl), zip_files inherited fs)

pub zip_all : (world : WorldView) (outlines : List OutlineView) (scopes : List Scope) → outlines ≡ outlines_of world → scopes ≡ scopes_over None world → AllZip IsOf outlines scopes
zip_all world outlines scopes read are =
    subst (λ ds. AllZip IsOf ds scopes) (sym read) (subst (AllZip IsOf (outlines_of world)) (sym (are ∙ ap scopes_of (over_all world))) (zip_files world.inherited world.files))

-- what is asked of the files that a view is over
pub named_read : (wanted : Option (List ℕ)) (world : WorldView) (scopes : List Scope) → AreShort world.files → length world.files ≤ MOST_FILES → scopes ≡ scopes_named wanted (scopes_of world) → AreRead scopes
named_read wanted world scopes short few are = subst AreRead (sym are) (record {
  heads = named_heads wanted world.inherited world.files;
  sound = read_sound 0 (scopes_named wanted (scopes_of world)) (named_sections wanted world.inherited world.files);
  texts = named_texts wanted world.inherited world.files short;
  few = omega (arith, few, named_few wanted (scopes_of world), length-map world.files (λ (f : FileView). scope_of world.inherited f.name f.text));
})

-- the stamps of a world's files are sound, so those that give a row are near
pub rows_examined : RowsAreExamined
unfolding near_in_world
rows_examined world first count =
    let named : All IsSound (sources_of 0 (scopes_named None (scopes_of world))) = read_sound 0 (scopes_named None (scopes_of world)) (named_sections None world.inherited world.files) in
    rows_are_of_near world.profile first count world.moment.day (scopes_of world) (subst (λ ss. All IsSound (sources_of 0 ss)) (all_named (scopes_of world)) named)
