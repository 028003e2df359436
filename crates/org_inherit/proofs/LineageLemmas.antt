-- What an entry has by itself and what by its parent.
use Rattle.std.proofs.Common.{◌≡◌, ℕ, ◌+◌, zero, suc, ◌-◌, ◌++◌, ◌<◌, ◌≤◌, fold, reverse, take, All, Bool, true, false, ◌||◌, Option, Some, None, List, [], ◌∷◌, length, map, get_or, nat_lt, append-nil, refl, sym, ap, ap₂, ◌∙◌, arith}
use Rattle.std.specs.Prelude.{codes, slice_get}
use Rattle.std.proofs.lemmas.Option.{slice_get-get_or}
use Rattle.std.specs.List.{list_any, range_with_len, flat_map}
use Rattle.std.specs.Option.{is_some, unwrap_or}
use Rattle.std.proofs.lemmas.List.FromFn.{get_or-map-range_with_len, map-range_with_len_more}
use Rattle.std.proofs.lemmas.List.Elements.{All-nil, All-cons, All-get_or, All-from_get_or, All-push}
use Rattle.std.proofs.lemmas.List.Sums.{fold-append}
use Rattle.std.proofs.lemmas.Bool.{ltb-false}
use Rattle.std.proofs.lemmas.Grind.{flat_map-append}
use Rattle.std.proofs.lemmas.List.{get_or-map, reverse-append, get_or-reverse, length-reverse, flat_map_more, take_more}
use Rattle.org_base.specs.Properties.{value_in}
use Rattle.org_entry.specs.declared.entry.Entry.{Entry}
use Rattle.org_inherit.specs.Category.{category_under}
use Rattle.org_inherit.specs.Hidden.{of_parent}
use Rattle.org_inherit.specs.Tables.{all_passing, has_category, has_tags, one_passes}
use Rattle.org_inherit.specs.Tags.{with_tag, own_tags, own_tags_at, lineage}
use Rattle.org_inherit.specs.Values.{first_of, own_value}
use Rattle.org_outline.proofs.ByPlace.{table_length, table_at}
use Rattle.org_outline.proofs.Chain.{ancestors_step, parent_earlier}
use Rattle.org_outline.proofs.Parents.{behind_parent}
use Rattle.org_outline.specs.Levels.{levels}
use Rattle.org_outline.specs.Places.{behind}
use Rattle.org_outline.specs.Tree.{parent, chain, ancestors, up_from}

missing : {X : Type 0} (x : Option X) → is_some x ≡ false → x ≡ None
missing None h = refl
missing (Some x) h = absurd cc

or_first : (a b : Bool) → (a || b) ≡ false → a ≡ false
or_first false b h = refl
or_first true b h = absurd cc

or_second : (a b : Bool) → (a || b) ≡ false → b ≡ false
or_second false b h = h
or_second true b h = absurd cc

-- what an entry has by itself, and by its parent
pub passes_next : (test : Entry → Bool) (es : List Entry) (i : ℕ) (d : Entry) → i < length es → one_passes test es i ≡ (test (get_or es i d) || list_any (λ j. get_or (map test es) j false) (up_from (levels es) (parent (levels es) i)))
passes_next test es i d h =
    ap (λ b. b || list_any (λ j. get_or (map test es) j false) (ancestors (levels es) i)) (get_or-map test es i d false h)
    ∙ ap (λ v. test (get_or es i d) || list_any (λ j. get_or (map test es) j false) v) (ancestors_step (levels es) i)

-- what doesn't pass by itself passes by its parent
pub passes_above : (test : Entry → Bool) (es : List Entry) (i : ℕ) (d : Entry) → i < length es → test (get_or es i d) ≡ false →
    one_passes test es i ≡ list_any (λ j. get_or (map test es) j false) (up_from (levels es) (parent (levels es) i))
passes_above test es i d h fails =
    passes_next test es i d h
    ∙ ap (λ b. b || list_any (λ j. get_or (map test es) j false) (up_from (levels es) (parent (levels es) i))) fails

-- a table of the entries before, at the parent
pub table_of_parent : (test : Entry → Bool) (es : List Entry) (i : ℕ) (p : Option ℕ) → behind p ≤ i →
    of_parent (map (one_passes test es) (range_with_len 0 i)) p ≡ list_any (λ j. get_or (map test es) j false) (up_from (levels es) p)
table_of_parent test es i None h = refl
table_of_parent test es i (Some p) h = get_or-map-range_with_len (one_passes test es) 0 i p p false (omega arith) (omega arith)

-- one more in a table
pub table_more : (test : Entry → Bool) (es : List Entry) (i : ℕ) (e : Entry) (p : Option ℕ) (old new : List Bool) (own : Bool) → i < length es →
    e ≡ get_or es i e → p ≡ parent (levels es) i → own ≡ test e →
    old ≡ map (one_passes test es) (range_with_len 0 i) → new ≡ old ++ (own || of_parent old p) ∷ [] →
    new ≡ map (one_passes test es) (range_with_len 0 (i + 1))
table_more test es i e p old new own within here above is before after =
    let q = behind_parent (levels es) i in
    let value : (own || of_parent old p) ≡ one_passes test es i =
    ap₂ (λ a b. a || b) (is ∙ ap test here) (ap₂ of_parent before above ∙ table_of_parent test es i (parent (levels es) i) (omega arith))
    ∙ sym (passes_next test es i e within) in
    after ∙ ap₂ (λ t b. t ++ b ∷ []) before value ∙ sym (map-range_with_len_more (one_passes test es) 0 i i (omega arith))

-- a table of all entries, at a place
pub all_passing_length : (test : Entry → Bool) (es : List Entry) (table : List Bool) → table ≡ all_passing test es → length table ≡ length es
all_passing_length test es table e = table_length (one_passes test es) table (length es) e

pub all_passing_at : (test : Entry → Bool) (es : List Entry) (table : List Bool) (i : ℕ) (d : Bool) → table ≡ all_passing test es → i < length es → get_or table i d ≡ one_passes test es i
all_passing_at test es table i d e h = table_at (one_passes test es) table (length es) i d e h

-- ancestors stand earlier
abbrev next : List (Option ℕ) → ℕ → Option ℕ → List ℕ
next ls n p = elim p [ None ↦ [] | Some j ↦ j ∷ chain ls n j ]

next_within : (ls : List (Option ℕ)) (n m : ℕ) (p : Option ℕ) → ((j : ℕ) → p ≡ Some j → j < m) → ((j : ℕ) → j ≤ m → All (λ k. k < m) (chain ls n j)) → All (λ k. k < m) (next ls n p)
next_within ls n m None f g = All-nil (λ k. k < m)
next_within ls n m (Some j) f g = All-cons (λ k. k < m) j (chain ls n j) (f j refl) (let l = f j refl in g j (omega arith))

pub chain_within : (ls : List (Option ℕ)) (n m j : ℕ) → j ≤ m → All (λ k. k < m) (chain ls n j)
chain_within ls zero m j h = All-nil (λ k. k < m)
chain_within ls (suc n) m j h = next_within ls n m (parent ls j) (λ k e. let l = parent_earlier ls j k e in omega arith) (λ k a. chain_within ls n m k a)

reverse_all : (m : ℕ) (xs : List ℕ) → All (λ k. k < m) xs → All (λ k. k < m) (reverse xs)
reverse_all m xs h =
    All-from_get_or (λ k. k < m) (reverse xs) 0
    (λ i l. let n = length-reverse xs in rw (get_or-reverse xs i 0 (omega (arith, n))) (All-get_or (λ k. k < m) xs (length xs - 1 - i) 0 (omega (arith, n)) h))

pub lineage_within : (es : List Entry) (i : ℕ) → i < length es → All (λ k. k < length es) (lineage es i)
lineage_within es i h =
    All-push (λ k. k < length es) (reverse (ancestors (levels es) i)) i
    (reverse_all (length es) (ancestors (levels es) i) (chain_within (levels es) i (length es) i (omega arith))) h

pub tags_here : (es : List Entry) (i : ℕ) (d : Entry) → i < length es → own_tags_at es i ≡ own_tags (get_or es i d)
tags_here es i d h = get_or-map own_tags es i d [] h

-- the tags along one more place of the lineage
pub tags_step : (file : List (List ℕ)) (f : ℕ → List (List ℕ)) (line : List ℕ) (k : ℕ) (ts more new : List (List ℕ)) → k < length line →
    ts ≡ fold with_tag [] (file ++ flat_map f (take k line)) →
    more ≡ f (get_or line k 0) →
    new ≡ fold with_tag ts more →
    new ≡ fold with_tag [] (file ++ flat_map f (take (k + 1) line))
tags_step file f line k ts more new h e g n =
    n ∙ (rw (e, g) (sym (fold-append with_tag [] (file ++ flat_map f (take k line)) (f (get_or line k 0)))))
    ∙ ap (fold with_tag []) (flat_map_more f file (take k line) (get_or line k 0) ∙ ap (λ v. file ++ flat_map f v) (sym (take_more line k 0 h)))

pub value_here : (es : List Entry) (name : List ℕ) (i : ℕ) (d : Entry) → i < length es → own_value es name i ≡ value_in (get_or es i d).details.drawer name
value_here es name i d h = get_or-map (λ e. value_in e.details.drawer name) es i d None h

-- an entry without an own category has its parent's, and the file's where it has no parent
pub category_above : (es : List Entry) (file : List ℕ) (i : ℕ) → own_value es (codes "CATEGORY") i ≡ None → category_under es file i ≡ unwrap_or (first_of (own_value es (codes "CATEGORY")) (up_from (levels es) (parent (levels es) i))) file
category_above es file i h = rw h (ap (λ v. unwrap_or (first_of (own_value es (codes "CATEGORY")) v) file) (ancestors_step (levels es) i))

-- a table of categories, at a place
pub category_in : (es : List Entry) (file : List ℕ) (table : List (List ℕ)) (n i : ℕ) (found : List ℕ) → table ≡ map (category_under es file) (range_with_len 0 n) → i < n → slice_get table i ≡ Some found → found ≡ category_under es file i
category_in es file table n i found e h there =
    let l = table_length (category_under es file) table n e in
    let same : Some (get_or table i []) ≡ Some found = sym (slice_get-get_or table i [] (omega arith)) ∙ there in
    let is : found ≡ get_or table i [] = cc in
    is ∙ table_at (category_under es file) table n i [] e h

-- where neither an entry nor an ancestor has own tags, none come from them
none_is_empty : {X : Type 0} (xs : List X) → nat_lt 0 (length xs) ≡ false → xs ≡ []
none_is_empty [] h = refl
none_is_empty (x ∷ xs) h = let l = ltb-false 0 (length (x ∷ xs)) h in absurd (omega arith)

untagged : (es : List Entry) (j : ℕ) → get_or (map has_tags es) j false ≡ false → own_tags_at es j ≡ []
untagged [] j h = refl
untagged (e ∷ es) zero h = none_is_empty (own_tags e) h
untagged (e ∷ es) (suc j) h = untagged es j h

flat_none : {X : Type 0} (p : ℕ → Bool) (f : ℕ → List X) → ((j : ℕ) → p j ≡ false → f j ≡ []) → (xs : List ℕ) → list_any p xs ≡ false → flat_map f (reverse xs) ≡ []
flat_none p f h [] none = refl
flat_none p f h (x ∷ xs) none =
    ap (flat_map f) (reverse-append (x ∷ []) xs)
    ∙ flat_map-append f (reverse xs) (x ∷ [])
    ∙ ap₂ (λ a b. a ++ b) (flat_none p f h xs (or_second _ _ none)) (append-nil (f x) ∙ h x (or_first _ _ none))

pub none_tagged : (es : List Entry) (i : ℕ) → one_passes has_tags es i ≡ false → flat_map (own_tags_at es) (lineage es i) ≡ []
none_tagged es i none =
    ap (flat_map (own_tags_at es)) (sym (reverse-append (i ∷ []) (ancestors (levels es) i)))
    ∙ flat_none (λ j. get_or (map has_tags es) j false) (own_tags_at es) (untagged es) (i ∷ ancestors (levels es) i) none

-- where no entry has its own category, all have the file's
own_none : (es : List Entry) (j : ℕ) → list_any has_category es ≡ false → own_value es (codes "CATEGORY") j ≡ None
own_none [] j h = refl
own_none (e ∷ es) zero h = missing (value_in e.details.drawer (codes "CATEGORY")) (or_first _ _ h)
own_none (e ∷ es) (suc j) h = own_none es j (or_second _ _ h)

first_none : {X : Type 0} (f : ℕ → Option X) → ((j : ℕ) → f j ≡ None) → (js : List ℕ) → first_of f js ≡ None
first_none f h [] = refl
first_none f h (j ∷ js) = rw (h j) (first_none f h js)

pub all_as_the_file : (es : List Entry) (file : List ℕ) (i : ℕ) → list_any has_category es ≡ false → category_under es file i ≡ file
all_as_the_file es file i h = ap (λ v. unwrap_or v file) (first_none (own_value es (codes "CATEGORY")) (λ j. own_none es j h) (i ∷ ancestors (levels es) i))

-- an entry without a value has that of its parent
pub value_above : (es : List Entry) (name : List ℕ) (p : ℕ) → own_value es name p ≡ None → first_of (own_value es name) (up_from (levels es) (Some p)) ≡ first_of (own_value es name) (up_from (levels es) (parent (levels es) p))
value_above es name p h = rw h (ap (first_of (own_value es name)) (ancestors_step (levels es) p))
