-- Each address has its own text.
use Rattle.std.proofs.Common.{◌≡◌, ℕ, zero, suc, ◌<◌, ◌≤◌, length, get_or, arith, Bool, true, false, cond, List, [], ◌∷◌, ◌++◌, Option, Some, None, refl, sym, ap, ◌∙◌, inl, inr}
use Rattle.std.specs.Prelude.{ℤ, bytes_eq, nat_lt, position, slice_set, Result, Ok, Err, IsOkUnless}
use Rattle.std.specs.Option.{option_and_then, option_map}
use Rattle.org_base.specs.Codes.{memory_fault}
use Rattle.org_base.specs.declared.code.Code.TheVariants.{Size}
use Rattle.org_base.specs.declared.fault.Fault.{Fault}
use Rattle.org_base.specs.declared.fault.Fault.TheVariants.{Plain}
use Rattle.org_text.specs.Replace.{max_bytes}
use Rattle.orgls_text.specs.Outcomes.{Becomes}
use Rattle.std.specs.List.{position_or_len}
use Rattle.std.proofs.lemmas.Bool.{cases_Bool, both_ways, ltb-false, ltb-true}
use Rattle.std.proofs.lemmas.List.Quantifiers.{position-Some}
use Rattle.std.proofs.lemmas.List.Sums.{fails_before_first}
use Rattle.std.proofs.lemmas.Slice.Eq.{bytes_eq-Decides}
use Rattle.orgls_text.specs.Documents.{Changed, Closed, DocumentView, Event, Opened, behind_event, behind_events, changed, document_of, fitting, has_address, or_before, text_behind, text_behind_all, text_of, with_document, with_text, without}
use Rattle.orgls_text.specs.Laws.{TextsAreTheirOwn}
use Rattle.orgls_text.specs.declared.change.ContentChange.{ContentChange}
use Rattle.orgls_text.specs.declared.position.PositionEncoding.{PositionEncoding}

-- two addresses that are a third are one
same_address : (a b c : List ℕ) → bytes_eq a c ≡ true → bytes_eq b c ≡ true → bytes_eq a b ≡ true
same_address a b c h k =
    let ac : a ≡ c = (bytes_eq-Decides a c).0 h in
    let bc : b ≡ c = (bytes_eq-Decides b c).0 k in
    (bytes_eq-Decides a b).1 (ac ∙ sym bc)

other_address : (a b c : List ℕ) → bytes_eq a b ≡ false → bytes_eq b c ≡ true → bytes_eq a c ≡ false
other_address a b c h k = elim (cases_Bool (bytes_eq a c)) [
  | inl is ↦ absurd (both_ways (bytes_eq a b) h (same_address a b c is k))
  | inr other ↦ other
]

under_both : (a b c : List ℕ) → bytes_eq a b ≡ true → bytes_eq a c ≡ true → bytes_eq b c ≡ true
under_both a b c h k =
    let ab : a ≡ b = (bytes_eq-Decides a b).0 h in
    let ac : a ≡ c = (bytes_eq-Decides a c).0 k in
    (bytes_eq-Decides b c).1 (sym ab ∙ ac)

-- what is open under an address once a document is put among the others
found_with : (documents : List DocumentView) (d : DocumentView) (a : List ℕ) →
    document_of (with_document documents d) a ≡ cond (bytes_eq a d.address) (Some d) (document_of documents a)
unfolding with_document
found_with [] d a = refl
found_with (x ∷ xs) d a = elim (cases_Bool (bytes_eq d.address x.address)) [
  | inl same ↦ elim (cases_Bool (bytes_eq a d.address)) [
    | inl is ↦ rw (same, is) refl
    | inr other ↦ rw (same, other, other_address a d.address x.address other same) refl
  ]
  | inr differ ↦ elim (cases_Bool (bytes_eq a x.address)) [
    | inl is ↦ elim (cases_Bool (bytes_eq a d.address)) [
      | inl again ↦ absurd (both_ways (bytes_eq d.address x.address) differ (under_both a d.address x.address again is))
      | inr other ↦ rw (differ, is, other) refl
    ]
    | inr other ↦ rw (differ, other) (found_with xs d a)
  ]
]

map_cond : (b : Bool) (d : DocumentView) (o : Option DocumentView) →
    option_map (λ (x : DocumentView). x.text) (cond b (Some d) o) ≡ cond b (Some d.text) (option_map (λ (x : DocumentView). x.text) o)
map_cond true d o = refl
map_cond false d o = refl

map_cond_none : (b : Bool) (o : Option DocumentView) →
    option_map (λ (x : DocumentView). x.text) (cond b None o) ≡ cond b None (option_map (λ (x : DocumentView). x.text) o)
map_cond_none true o = refl
map_cond_none false o = refl

cond_none : (b : Bool) → ◌≡◌ {A = Option DocumentView} None (cond b None None)
cond_none true = refl
cond_none false = refl

cond_same : {A : Type 0} (b : Bool) (x : A) → x ≡ cond b x x
cond_same true x = refl
cond_same false x = refl

text_with : (documents : List DocumentView) (d : DocumentView) (a : List ℕ) →
    text_of (with_document documents d) a ≡ cond (bytes_eq a d.address) (Some d.text) (text_of documents a)
text_with documents d a = ap (option_map (λ (x : DocumentView). x.text)) (found_with documents d a) ∙ map_cond (bytes_eq a d.address) d (document_of documents a)

-- what is open under an address once another is closed
found_without : (documents : List DocumentView) (b a : List ℕ) →
    document_of (without documents b) a ≡ cond (bytes_eq a b) None (document_of documents a)
found_without [] b a = cond_none (bytes_eq a b)
found_without (x ∷ xs) b a = elim (cases_Bool (bytes_eq b x.address)) [
  | inl gone ↦ elim (cases_Bool (bytes_eq a b)) [
    | inl is ↦ rw gone (found_without xs b a ∙ rw (is) refl)
    | inr other ↦ rw gone (found_without xs b a ∙ rw (other, other_address a b x.address other gone) refl)
  ]
  | inr stays ↦ elim (cases_Bool (bytes_eq a x.address)) [
    | inl is ↦ elim (cases_Bool (bytes_eq a b)) [
      | inl again ↦ absurd (both_ways (bytes_eq b x.address) stays (under_both a b x.address again is))
      | inr other ↦ rw (stays, is, other) refl
    ]
    | inr other ↦ rw (stays, other) (found_without xs b a)
  ]
]

text_told : (documents : List DocumentView) (address : List ℕ) (version : ℤ) (new : Option (List ℕ)) (a : List ℕ) →
    text_of (with_text documents address version new) a ≡ cond (bytes_eq a address) (or_before new (text_of documents a)) (text_of documents a)
text_told documents address version None a = cond_same (bytes_eq a address) (text_of documents a)
text_told documents address version (Some text) a = text_with documents (record { address = address; version = version; text = text }) a

-- of an address alone the text of the changes is that of its own
changes_own : (e : PositionEncoding) (documents : List DocumentView) (address : List ℕ) (changes : List ContentChange) (a : List ℕ) →
    cond (bytes_eq a address) (or_before (option_and_then (changed e changes) (text_of documents address)) (text_of documents a)) (text_of documents a)
    ≡ cond (bytes_eq a address) (or_before (option_and_then (changed e changes) (text_of documents a)) (text_of documents a)) (text_of documents a)
changes_own e documents address changes a = elim (cases_Bool (bytes_eq a address)) [
  | inl is ↦
      let same : a ≡ address = (bytes_eq-Decides a address).0 is in
      ap (λ b. cond (bytes_eq a address) (or_before (option_and_then (changed e changes) (text_of documents b)) (text_of documents a)) (text_of documents a)) (sym same)
  | inr other ↦ rw other refl
]

one_event : (e : PositionEncoding) (documents : List DocumentView) (event : Event) (a : List ℕ) →
    text_of (behind_event e documents event) a ≡ text_behind e a (text_of documents a) event
one_event e documents (Opened address version text) a = text_told documents address version (fitting text) a
one_event e documents (Changed address version changes) a =
    text_told documents address version (option_and_then (changed e changes) (text_of documents address)) a ∙ changes_own e documents address changes a
one_event e documents (Closed address) a =
    ap (option_map (λ (x : DocumentView). x.text)) (found_without documents address a) ∙ map_cond_none (bytes_eq a address) (document_of documents a)

all_events : (e : PositionEncoding) (documents : List DocumentView) (events : List Event) (a : List ℕ) →
    text_of (behind_events e documents events) a ≡ text_behind_all e a (text_of documents a) events
unfolding behind_events text_behind_all
all_events e documents [] a = refl
all_events e documents (event ∷ events) a =
    all_events e (behind_event e documents event) events a ∙ ap (λ t. text_behind_all e a t events) (one_event e documents event a)

pub texts_are_their_own : TextsAreTheirOwn
texts_are_their_own e address events = all_events e [] events address

none_past : (n len : ℕ) → cond (nat_lt n len) (Some n) None ≡ None → len ≤ n
none_past n len h = elim (cases_Bool (nat_lt n len)) [
  | inl within ↦ let is : ◌≡◌ {A = Option ℕ} (Some n) None = rw within at h in absurd cc
  | inr past ↦ ltb-false n len past
]

put_at_by : (xs : List DocumentView) (d y : DocumentView) (k : ℕ) → k < length xs → has_address d.address (get_or xs k y) ≡ true →
    ((j : ℕ) → j < k → has_address d.address (get_or xs j y) ≡ false) → with_document xs d ≡ slice_set xs k d
unfolding with_document
put_at_by [] d y k lt here before = absurd (omega arith)
put_at_by (x ∷ xs) d y zero lt here before = rw here refl
put_at_by (x ∷ xs) d y (suc k) lt here before =
    let first : has_address d.address x ≡ false = before 0 (omega arith) in
    rw first (ap (λ (zs : List DocumentView). x ∷ zs) (put_at_by xs d y k (omega arith) here (λ j h. before (suc j) (omega arith))))

put_behind_by : (xs : List DocumentView) (d y : DocumentView) → ((j : ℕ) → j < length xs → has_address d.address (get_or xs j y) ≡ false) →
    with_document xs d ≡ xs ++ d ∷ []
unfolding with_document
put_behind_by [] d y none = refl
put_behind_by (x ∷ xs) d y none =
    let first : has_address d.address x ≡ false = none 0 (omega arith) in
    rw first (ap (λ (zs : List DocumentView). x ∷ zs) (put_behind_by xs d y (λ j h. none (suc j) (omega arith))))

-- a document that is put where the one with its address stands
pub put_at : (xs : List DocumentView) (d : DocumentView) (k : ℕ) → position (has_address d.address) xs ≡ Some k → with_document xs d ≡ slice_set xs k d
put_at xs d k h =
    let at = position-Some (has_address d.address) xs k d h in
    put_at_by xs d d k at.0 at.1 at.2

-- and one that is put behind all others
pub put_behind : (xs : List DocumentView) (d : DocumentView) → position (has_address d.address) xs ≡ None → with_document xs d ≡ xs ++ d ∷ []
put_behind xs d h =
    let past : length xs ≤ position_or_len (has_address d.address) xs = none_past (position_or_len (has_address d.address) xs) (length xs) h in
    put_behind_by xs d d (λ j lt. fails_before_first (has_address d.address) xs j d (omega arith))

-- a text that was made has no more bytes than texts may have
pub fits_if_made : {T : Type 0} (t : List ℕ) (r : Result T Fault) (x : T) → (max_bytes < length t → r ≡ Err (Plain Size)) → r ≡ Ok x → fitting t ≡ Some t
fits_if_made t r x size made = elim (cases_Bool (nat_lt max_bytes (length t))) [
  | inl long ↦ let refused : r ≡ Err (Plain Size) = size (ltb-true max_bytes (length t) long) in absurd cc
  | inr short ↦ rw short refl
]

-- one that was refused, and not for want of memory, has more
pub long_if_refused : {T : Type 0} (t : List ℕ) (r : Result T Fault) (f : Fault) → (length t ≤ max_bytes → IsOkUnless r memory_fault) → r ≡ Err f →
    (f ≡ memory_fault → ⊥) → fitting t ≡ None
long_if_refused t r f memory refused other = elim (cases_Bool (nat_lt max_bytes (length t))) [
  | inl long ↦ rw long refl
  | inr short ↦
      let only : IsOkUnless r memory_fault = memory (ltb-false max_bytes (length t) short) in
      let f_only : f ≡ memory_fault = rw refused at only in
      absurd (other f_only)
]

pub none_if_refused : {T : Type 0} (o : Option T) (r : Result T Fault) (f : Fault) → Becomes o r → r ≡ Err f → (f ≡ memory_fault → ⊥) → o ≡ None
none_if_refused None r f becomes is other = refl
none_if_refused (Some x) (Ok y) f becomes is other = absurd cc
none_if_refused (Some x) (Err g) f becomes is other = let same : g ≡ f = cc in absurd (other (sym same ∙ becomes))

pub some_if_made : {T : Type 0} (o : Option T) (r : Result T Fault) (x : T) → Becomes o r → r ≡ Ok x → o ≡ Some x
some_if_made (Some y) (Ok z) x becomes is = let same : z ≡ x = cc in ap Some (sym becomes ∙ same)
some_if_made (Some y) (Err g) x becomes is = absurd cc
some_if_made None (Ok z) x becomes is = absurd becomes
some_if_made None (Err g) x becomes is = absurd cc

-- what is told and refused changes nothing
pub told_nothing : (documents : List DocumentView) (a : List ℕ) (v : ℤ) (new : Option (List ℕ)) → new ≡ None → with_text documents a v new ≡ documents
told_nothing documents a v new none = rw none refl

pub told_text : (documents : List DocumentView) (a : List ℕ) (v : ℤ) (new : Option (List ℕ)) (t : List ℕ) → new ≡ Some t →
    with_text documents a v new ≡ with_document documents (record { address = a; version = v; text = t })
told_text documents a v new t some = rw some refl
