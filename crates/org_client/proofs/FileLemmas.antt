-- What is said of files that were read.
use Rattle.std.proofs.Common.{◌≡◌, ◌≢◌, ◌∙◌, ℕ, zero, suc, ◌+◌, ◌≤◌, List, [], ◌∷◌, ◌++◌, length, map, take, refl, sym, ap, subst, arith, inl, inr}
use Rattle.std.specs.Prelude.{Some, IfSome, slice_get, Result, Ok, Err, IfOk}
use Rattle.std.specs.List.{All}
use Rattle.std.proofs.lemmas.List.{map-append, take_all}
use Rattle.std.proofs.lemmas.List.Elements.{All-append}
use Rattle.org_agenda.specs.Headings.{AllHaveHeads, HaveHeads}
use Rattle.org_class.specs.Sections.{sections}
use Rattle.org_entry.specs.Entry.{entry_of, heading_line}
use Rattle.org_entry.specs.declared.entry.Entry.{Entry}
use Rattle.org_entry.proofs.HeadLemmas.{heads_are_of_their_lines}
use Rattle.org_head.specs.Head.{head_of}
use Rattle.org_inherit.specs.Scope.{Scope}
use Rattle.org_base.specs.Results.{Gives}
use Rattle.org_store.specs.Outline.{OutlineView, file_settings, outline_of, scope_in}
use Rattle.org_settings.specs.Settings.{FileSettings}
use Rattle.org_sum.specs.Texts.{AreOfText}
use Rattle.org_client.specs.Files.{AreDifferent, AreFirst, IsNew, NamedText, scope_of}
use Rattle.org_client.proofs.LawLemmas.{snoc_get, within}
use Rattle.org_text.specs.Replace.{max_bytes}

in_sections : (settings : FileSettings) (ss : List (List ℕ)) → HaveHeads settings (map (entry_of settings) ss)
in_sections settings [] i e there = absurd cc
in_sections settings (s ∷ ss) zero e there =
    let same : entry_of settings s ≡ e = cc in
    subst (λ (x : Entry). IfSome x.head (λ head. head ≡ head_of settings (heading_line x))) same (heads_are_of_their_lines settings s)
in_sections settings (s ∷ ss) (suc i) e there = in_sections settings ss i e there

-- the heads of a file are those of its lines
pub file_heads : (inherited : List (List ℕ)) (f : NamedText) → HaveHeads (scope_of inherited f).settings (scope_of inherited f).entries
file_heads inherited f = in_sections (file_settings f.text) (sections f.text)

-- one file more
pub heads_more : (scopes : List Scope) (one : Scope) → AllHaveHeads scopes → HaveHeads one.settings one.entries → AllHaveHeads (scopes ++ one ∷ [])
heads_more [] one all own zero scope there =
    let same : one ≡ scope = cc in
    subst (λ (s : Scope). HaveHeads s.settings s.entries) same own
heads_more [] one all own (suc k) scope there = absurd cc
heads_more (s ∷ ss) one all own zero scope there = all zero scope there
heads_more (s ∷ ss) one all own (suc k) scope there = heads_more ss one (λ i t at. all (suc i) t at) own k scope there

one_alone : (P : Scope → Type 0) (x : Scope) → P x → All P (x ∷ [])
one_alone P x own zero d lt = own
one_alone P x own (suc k) d lt = absurd (omega (arith, lt))

pub texts_more : (scopes : List Scope) (one : Scope) → All (λ (s : Scope). AreOfText s.entries) scopes → AreOfText one.entries → All (λ (s : Scope). AreOfText s.entries) (scopes ++ one ∷ [])
texts_more scopes one all own = All-append (λ (s : Scope). AreOfText s.entries) scopes (one ∷ []) all (one_alone (λ (s : Scope). AreOfText s.entries) one own)

taken : (xs : List NamedText) (i : ℕ) (x : NamedText) → slice_get xs i ≡ Some x → take (i + 1) xs ≡ take i xs ++ x ∷ []
taken [] i x at = absurd cc
taken (y ∷ ys) zero x at = let same : y ≡ x = cc in ap (λ z. z ∷ []) same
taken (y ∷ ys) (suc i) x at = let next : suc i + 1 ≡ suc (i + 1) = omega arith in rw next (ap (λ zs. y ∷ zs) (taken ys i x at))

pub scopes_more : (f : NamedText → Scope) (files : List NamedText) (i : ℕ) (file : NamedText) (scope : Scope) (old new : List Scope) → slice_get files i ≡ Some file → scope ≡ f file → old ≡ map f (take i files) → new ≡ old ++ scope ∷ [] → new ≡ map f (take (i + 1) files)
scopes_more f files i file scope old new at is so pushed =
    pushed ∙ (λ j. so j ++ is j ∷ []) ∙ sym (ap (map f) (taken files i file at) ∙ map-append f (take i files) (file ∷ []))

pub scopes_all : (f : NamedText → Scope) (files : List NamedText) (i : ℕ) (scopes : List Scope) → length files ≤ i → scopes ≡ map f (take i files) → scopes ≡ map f files
scopes_all f files i scopes le is = is ∙ ap (map f) (take_all i files le)

-- what the outline says of a file is what its text says
pub scope_eq : (outline : OutlineView) (name : List ℕ) (inherited : List (List ℕ)) (f : NamedText) → outline ≡ outline_of f.text → name ≡ f.name → scope_in outline name inherited ≡ scope_of inherited f
scope_eq outline name inherited f said is = λ i. scope_in (said i) (is i) inherited

pub given_as : {E : Type 0} (r : Result Scope E) (a b : Scope) → a ≡ b → Gives r a → Gives r b
given_as (Ok x) a b e h = h ∙ e
given_as (Err x) a b e h = tt

pub heads_of : {E : Type 0} (r : Result Scope E) (inherited : List (List ℕ)) (f : NamedText) → Gives r (scope_of inherited f) → IfOk r (λ scope. HaveHeads scope.settings scope.entries)
heads_of (Ok x) inherited f e = subst (λ (s : Scope). HaveHeads s.settings s.entries) (sym e) (file_heads inherited f)
heads_of (Err x) inherited f e = tt

pub text_of : {E : Type 0} (r : Result Scope E) (inherited : List (List ℕ)) (f : NamedText) → length f.text ≤ max_bytes → Gives r (scope_of inherited f) → IfOk r (λ scope. AreOfText scope.entries)
text_of (Ok x) inherited f short e = subst (λ (s : Scope). AreOfText s.entries) (sym e) (record { settings = file_settings f.text; text = f.text; short = short; are = refl })
text_of (Err x) inherited f short e = tt

pub read_more : (f : NamedText → Scope) (files : List NamedText) (i : ℕ) (file : NamedText) (scope : Scope) (old new : List Scope) → slice_get files i ≡ Some file → scope ≡ f file →
    HaveHeads scope.settings scope.entries → AreOfText scope.entries → AreFirst f files i old → new ≡ old ++ scope ∷ [] → AreFirst f files (i + 1) new
read_more f files i file scope old new at is heads text so pushed = record {
  named = scopes_more f files i file scope old new at is so.named pushed;
  heads = subst AllHaveHeads (sym pushed) (heads_more old scope so.heads heads);
  texts = subst (All (λ (s : Scope). AreOfText s.entries)) (sym pushed) (texts_more old scope so.texts text);
}

one_path : (path : List ℕ) (file : NamedText) → file.path ≢ path → IsNew path (file ∷ [])
one_path path file own zero d lt = own
one_path path file own (suc k) d lt = absurd (omega (arith, lt))

-- one file more that isn't of a path
pub new_more : (path : List ℕ) (files : List NamedText) (i : ℕ) (file : NamedText) → slice_get files i ≡ Some file → file.path ≢ path → IsNew path (take i files) → IsNew path (take (i + 1) files)
new_more path files i file at own so =
    subst (IsNew path) (sym (taken files i file at)) (All-append (λ (f : NamedText). f.path ≢ path) (take i files) (file ∷ []) so (one_path path file own))

pub new_all : (path : List ℕ) (files : List NamedText) (i : ℕ) → length files ≤ i → IsNew path (take i files) → IsNew path files
new_all path files i past so = subst (IsNew path) (take_all i files past) so

pub new_at : (path : List ℕ) (files : List NamedText) (i : ℕ) (file : NamedText) → IsNew path files → slice_get files i ≡ Some file → file.path ≢ path
new_at path [] i file all at = absurd cc
new_at path (f ∷ fs) zero file all at = let same : f ≡ file = cc in subst (λ (x : NamedText). x.path ≢ path) same (all 0 f (omega arith))
new_at path (f ∷ fs) (suc i) file all at = new_at path fs i file (λ k d lt. all (suc k) d (omega (arith, lt))) at

-- one file more of another path
pub different_more : (files : List NamedText) (file : NamedText) → AreDifferent files → IsNew file.path files → AreDifferent (files ++ file ∷ [])
different_more files file all new i j a b lt at bt = elim (snoc_get files file j b bt) [
  | inl h ↦ elim (snoc_get files file i a at) [
    | inl k ↦ all i j a b lt k h
    | inr k ↦ let low = within files j b h in absurd (omega (arith, low, k.0, lt))
  ]
  | inr h ↦ elim (snoc_get files file i a at) [
    | inl k ↦ subst (λ (x : NamedText). a.path ≢ x.path) h.1 (new_at file.path files i a new k)
    | inr k ↦ absurd (omega (arith, h.0, k.0, lt))
  ]
]
