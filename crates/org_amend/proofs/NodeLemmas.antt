-- The node lines of a property drawer that is changed.
use Rattle.std.proofs.Common.{◌≡◌, ◌∙◌, ℕ, ◌+◌, ◌≤◌, Bool, true, false, not, ◌&&◌, inl, inr, List, [], ◌∷◌, ◌++◌, length, drop, slice_get, refl, sym, ap, append_assoc, append-nil}
use Rattle.std.specs.Prelude.{◌||◌, Option, Some, None, if◌then◌else◌}
use Rattle.std.specs.List.{concat, filter, list_all, list_any}
use Rattle.std.specs.Option.{option_map}
use Rattle.std.proofs.lemmas.Bool.{and_parts, cases_Bool}
use Rattle.std.proofs.lemmas.List.{drop_all}
use Rattle.org_amend.specs.PropertyChanges.{all_give, behind_opening, changed_from, gives, gives_value, is_given, nodes_from, says_once, unless_put}
use Rattle.org_amend.specs.PropertyLaws.{given_by, others_of}
use Rattle.org_amend.proofs.TagLemmas.{cut_at}
use Rattle.org_class.specs.Drawers.{is_drawer_end}
use Rattle.org_drawer.specs.Node.{is_node}

-- lines that are passed through one by one

pub behind_first : (drawer : List (List ℕ)) → drop 1 drawer ≡ behind_opening drawer
behind_first [] = refl
behind_first (l ∷ ls) = refl

pub all_more : (name : List ℕ) (drawer : List (List ℕ)) (i : ℕ) (line : List ℕ) → slice_get drawer i ≡ Some line → (is_drawer_end line || gives name line) ≡ true → all_give name (drop (i + 1) drawer) ≡ all_give name (drop i drawer)
all_more name drawer i line there holds = sym (ap (all_give name) (cut_at drawer i line there) ∙ (rw holds refl))

pub all_stops : (name : List ℕ) (drawer : List (List ℕ)) (i : ℕ) (line : List ℕ) → slice_get drawer i ≡ Some line → (is_drawer_end line || gives name line) ≡ false → all_give name (drop i drawer) ≡ false
all_stops name drawer i line there fails = ap (all_give name) (cut_at drawer i line there) ∙ (rw fails refl)

-- the node lines of a drawer that is found

pub record Nodes (ls drawer : List (List ℕ)) : Type 0 where
  pub nodes : List (List ℕ)
  pub last : List ℕ
  pub rest : List (List ℕ)
  pub ls_is : ls ≡ nodes ++ last ∷ rest
  pub drawer_is : drawer ≡ nodes ++ last ∷ []
  pub are_nodes : list_all is_node nodes ≡ true
  pub none_ends : list_any is_drawer_end nodes ≡ false
  pub ends : is_drawer_end last ≡ true

pub record Mapped (l : List ℕ) (o : Option (List (List ℕ))) (d : List (List ℕ)) : Type 0 where
  pub tail : List (List ℕ)
  pub was : o ≡ Some tail
  pub is : d ≡ l ∷ tail

pub from_map : (l : List ℕ) (o : Option (List (List ℕ))) (d : List (List ℕ)) → option_map (λ t. l ∷ t) o ≡ Some d → Mapped l o d
from_map l None d e = absurd cc
from_map l (Some t) d e = record { tail = t; was = refl; is = cc }

all_first : (p : List ℕ → Bool) (l : List ℕ) (ls : List (List ℕ)) → p l ≡ true → list_all p ls ≡ true → list_all p (l ∷ ls) ≡ true
all_first p l ls h k = rw h k

any_first : (p : List ℕ → Bool) (l : List ℕ) (ls : List (List ℕ)) → p l ≡ false → list_any p ls ≡ false → list_any p (l ∷ ls) ≡ false
any_first p l ls h k = rw h k

pub nodes_there : (ls d : List (List ℕ)) → nodes_from ls ≡ Some d → Nodes ls d
nodes_there [] d e = absurd cc
nodes_there (l ∷ ls) d e = elim (cases_Bool (is_drawer_end l)) [
  | inl ends ↦
      let is : ◌≡◌ {A = Option (List (List ℕ))} (Some (l ∷ [])) (Some d) = rw ends at e in
      record { nodes = []; last = l; rest = ls; ls_is = refl; drawer_is = cc; are_nodes = refl; none_ends = refl; ends = ends }
  | inr goes_on ↦
      let e1 : (if is_node l then option_map (λ t. l ∷ t) (nodes_from ls) else None) ≡ Some d = rw goes_on at e in
      elim (cases_Bool (is_node l)) [
        | inr none ↦ absurd (let wrong : ◌≡◌ {A = Option (List (List ℕ))} None (Some d) = rw none at e1 in cc)
        | inl node ↦
            let e2 : option_map (λ t. l ∷ t) (nodes_from ls) ≡ Some d = rw node at e1 in
            let m = from_map l (nodes_from ls) d e2 in
            let n = nodes_there ls m.tail m.was in
            record {
              nodes = l ∷ n.nodes;
              last = n.last;
              rest = n.rest;
              ls_is = ap (λ t. l ∷ t) n.ls_is;
              drawer_is = m.is ∙ ap (λ t. l ∷ t) n.drawer_is;
              are_nodes = all_first is_node l n.nodes node n.are_nodes;
              none_ends = any_first is_drawer_end l n.nodes goes_on n.none_ends;
              ends = n.ends;
            }
      ]
]

-- the lines that come, as lines

abbrev pub listed : List ℕ → List (List ℕ) → Bool → List (List ℕ) → List (List ℕ)
listed name ns is_put [] = if is_put then [] else ns
listed name ns is_put (l ∷ ls) = if gives name l then (if is_put then [] else ns) ++ listed name ns true ls else l ∷ listed name ns is_put ls

pub concat_put : (ns more : List (List ℕ)) → concat (ns ++ more) ≡ concat ns ++ concat more
concat_put [] more = refl
concat_put (n ∷ ns) more = ap (λ t. n ++ t) (concat_put ns more) ∙ sym (append_assoc n (concat ns) (concat more))

put_lines : (is_put : Bool) (node : List ℕ) (ns : List (List ℕ)) → concat ns ≡ node → unless_put is_put node ≡ concat (if is_put then [] else ns)
put_lines true node ns e = refl
put_lines false node ns e = sym e

pub listed_bytes : (name node : List ℕ) (ns : List (List ℕ)) (is_put : Bool) (nodes : List (List ℕ)) (last : List ℕ) → concat ns ≡ node → list_any is_drawer_end nodes ≡ false → is_drawer_end last ≡ true →
    changed_from name node is_put (nodes ++ last ∷ []) ≡ concat (listed name ns is_put nodes ++ last ∷ [])
listed_bytes name node ns is_put [] last e none ends =
    rw ends (append-nil (unless_put is_put node ++ last)
    ∙ (ap (λ t. t ++ last) (put_lines is_put node ns e)
    ∙ (ap (λ t. concat (if is_put then [] else ns) ++ t) (sym (append-nil last)) ∙ sym (concat_put (if is_put then [] else ns) (last ∷ [])))))
listed_bytes name node ns is_put (l ∷ ls) last e none ends =
    let first = none_first (is_drawer_end l) (list_any is_drawer_end ls) none in
    elim (cases_Bool (gives name l)) [
      | inl given ↦
          rw (first.0, given)
          (ap (λ t. unless_put is_put node ++ t) (listed_bytes name node ns true ls last e first.1 ends)
          ∙ (ap (λ t. t ++ concat (listed name ns true ls ++ last ∷ [])) (put_lines is_put node ns e)
          ∙ (sym (concat_put (if is_put then [] else ns) (listed name ns true ls ++ last ∷ []))
          ∙ ap concat (sym (append_assoc (if is_put then [] else ns) (listed name ns true ls) (last ∷ []))))))
      | inr other ↦ rw (first.0, other) (ap (λ t. l ++ t) (listed_bytes name node ns is_put ls last e first.1 ends))
    ]
  where
    none_first : (a b : Bool) → (a || b) ≡ false → (a ≡ false) × (b ≡ false)
    none_first false b h = (refl, h)
    none_first true b h = absurd cc

-- which of them give the name

pub record Alone (name : List ℕ) (ns : List (List ℕ)) : Type 0 where
  pub given : given_by name ns ≡ ns
  pub others : others_of name ns ≡ []

filter_put : (p : List ℕ → Bool) (ns more : List (List ℕ)) → filter p (ns ++ more) ≡ filter p ns ++ filter p more
filter_put p [] more = refl
filter_put p (n ∷ ns) more = elim (cases_Bool (p n)) [
  | inl yes' ↦ rw yes' (ap (λ t. n ∷ t) (filter_put p ns more))
  | inr no' ↦ rw no' (filter_put p ns more)
]

pub listed_given : (name : List ℕ) (ns : List (List ℕ)) (is_put : Bool) (nodes : List (List ℕ)) → Alone name ns → given_by name (listed name ns is_put nodes) ≡ (if is_put then [] else ns)
listed_given name ns true [] alone = refl
listed_given name ns false [] alone = alone.given
listed_given name ns is_put (l ∷ ls) alone = elim (cases_Bool (gives name l)) [
  | inl given ↦
      rw given
      (filter_put (gives name) (if is_put then [] else ns) (listed name ns true ls)
      ∙ (ap (λ t. filter (gives name) (if is_put then [] else ns) ++ t) (listed_given name ns true ls alone)
      ∙ (append-nil (filter (gives name) (if is_put then [] else ns)) ∙ own is_put)))
  | inr other ↦ rw (other, other) (listed_given name ns is_put ls alone)
]
  where
    own : (b : Bool) → filter (gives name) (if b then [] else ns) ≡ (if b then [] else ns)
    own true = refl
    own false = alone.given

pub listed_others : (name : List ℕ) (ns : List (List ℕ)) (is_put : Bool) (nodes : List (List ℕ)) → Alone name ns → others_of name (listed name ns is_put nodes) ≡ others_of name nodes
listed_others name ns true [] alone = refl
listed_others name ns false [] alone = alone.others
listed_others name ns is_put (l ∷ ls) alone = elim (cases_Bool (gives name l)) [
  | inl given ↦
      rw given
      (filter_put (λ x. not (gives name x)) (if is_put then [] else ns) (listed name ns true ls)
      ∙ (ap (λ t. t ++ others_of name (listed name ns true ls)) (own is_put) ∙ listed_others name ns true ls alone))
  | inr other ↦ rw (other, other) (ap (λ t. l ∷ t) (listed_others name ns is_put ls alone))
]
  where
    own : (b : Bool) → others_of name (if b then [] else ns) ≡ []
    own true = refl
    own false = alone.others

-- they are node lines, and none ends the drawer

pub all_put : (p : List ℕ → Bool) (ns more : List (List ℕ)) → list_all p ns ≡ true → list_all p more ≡ true → list_all p (ns ++ more) ≡ true
all_put p [] more h k = k
all_put p (n ∷ ns) more h k = (let both = and_parts (p n) (list_all p ns) h in rw both.0 (all_put p ns more both.1 k))

pub listed_all : (p : List ℕ → Bool) (name : List ℕ) (ns : List (List ℕ)) (is_put : Bool) (nodes : List (List ℕ)) → list_all p ns ≡ true → list_all p nodes ≡ true → list_all p (listed name ns is_put nodes) ≡ true
listed_all p name ns true [] h k = refl
listed_all p name ns false [] h k = h
listed_all p name ns is_put (l ∷ ls) h k =
    let both = and_parts (p l) (list_all p ls) k in
    elim (cases_Bool (gives name l)) [
      | inl given ↦ rw given (all_put p (if is_put then [] else ns) (listed name ns true ls) (own is_put) (listed_all p name ns true ls h both.1))
      | inr other ↦ rw (other, both.0) (listed_all p name ns is_put ls h both.1)
    ]
  where
    own : (b : Bool) → list_all p (if b then [] else ns) ≡ true
    own true = refl
    own false = h

pub any_all : (p : List ℕ → Bool) (ls : List (List ℕ)) → list_any p ls ≡ false → list_all (λ l. not (p l)) ls ≡ true
any_all p [] h = refl
any_all p (l ∷ ls) h = elim (cases_Bool (p l)) [
  | inl yes' ↦ absurd (let wrong : true ≡ false = rw yes' at h in cc)
  | inr no' ↦ rw no' (any_all p ls (rw no' at h))
]

pub all_any : (p : List ℕ → Bool) (ls : List (List ℕ)) → list_all (λ l. not (p l)) ls ≡ true → list_any p ls ≡ false
all_any p [] h = refl
all_any p (l ∷ ls) h = elim (cases_Bool (p l)) [
  | inl yes' ↦ absurd (let wrong : false ≡ true = rw yes' at h in cc)
  | inr no' ↦ rw no' (all_any p ls (rw no' at h))
]

-- where one line alone says it already

pub said_none : (name value : List ℕ) (nodes : List (List ℕ)) (last : List ℕ) → list_any is_drawer_end nodes ≡ false → is_drawer_end last ≡ true → says_once name value true (nodes ++ last ∷ []) ≡ true → given_by name nodes ≡ []
said_none name value [] last none ends h = refl
said_none name value (l ∷ ls) last none ends h = elim (cases_Bool (is_drawer_end l)) [
  | inl stops ↦ absurd (let wrong : true ≡ false = rw stops at none in cc)
  | inr goes_on ↦ elim (cases_Bool (gives name l)) [
    | inl given ↦ absurd (let wrong : false ≡ true = rw (goes_on, given) at h in cc)
    | inr other ↦ rw other (said_none name value ls last (rw goes_on at none) ends (rw (goes_on, other) at h))
  ]
]

given_first : (name l : List ℕ) (ls rest : List (List ℕ)) → gives name l ≡ true → given_by name ls ≡ rest → given_by name (l ∷ ls) ≡ l ∷ rest
given_first name l ls rest given e = rw given (ap (λ t. l ∷ t) e)

given_later : (name l : List ℕ) (ls rest : List (List ℕ)) → gives name l ≡ false → given_by name ls ≡ rest → given_by name (l ∷ ls) ≡ rest
given_later name l ls rest other e = rw other e

pub said_alone : (name value : List ℕ) (nodes : List (List ℕ)) (last : List ℕ) → list_any is_drawer_end nodes ≡ false → is_drawer_end last ≡ true → says_once name value false (nodes ++ last ∷ []) ≡ true →
    (node : List ℕ) × (given_by name nodes ≡ node ∷ []) × (gives_value value node ≡ true)
said_alone name value [] last none ends h = absurd (let wrong : false ≡ true = rw ends at h in cc)
said_alone name value (l ∷ ls) last none ends h = elim (cases_Bool (is_drawer_end l)) [
  | inl stops ↦ absurd (let wrong : true ≡ false = rw stops at none in cc)
  | inr goes_on ↦ elim (cases_Bool (gives name l)) [
    | inl given ↦
        let says : (gives_value value l && says_once name value true (ls ++ last ∷ [])) ≡ true = rw (goes_on, given) at h in
        let both = and_parts (gives_value value l) (says_once name value true (ls ++ last ∷ [])) says in
        (l, given_first name l ls [] given (said_none name value ls last (rw goes_on at none) ends both.1), both.0)
    | inr other ↦
        let later = said_alone name value ls last (rw goes_on at none) ends (rw (goes_on, other) at h) in
        (later.0, given_later name l ls (later.0 ∷ []) other later.1, later.2)
  ]
]

-- where all give the name none of another is left
pub all_gone : (name : List ℕ) (nodes : List (List ℕ)) (last : List ℕ) → list_any is_drawer_end nodes ≡ false → all_give name (nodes ++ last ∷ []) ≡ true → others_of name nodes ≡ []
all_gone name [] last none h = refl
all_gone name (l ∷ ls) last none h = elim (cases_Bool (is_drawer_end l)) [
  | inl stops ↦ absurd (let wrong : true ≡ false = rw stops at none in cc)
  | inr goes_on ↦
      let both = and_parts (is_drawer_end l || gives name l) (all_give name (ls ++ last ∷ [])) h in
      let given : gives name l ≡ true = rw goes_on at both.0 in
      rw given (all_gone name ls last (rw goes_on at none) both.1)
]

-- one more line is put, or what stands in its place

module _ (name node : List ℕ) (is_put : Bool) (drawer : List (List ℕ)) (i : ℕ) (line before whole : List ℕ) (there : slice_get drawer i ≡ Some line) (all : before ++ changed_from name node is_put (drop i drawer) ≡ whole) where
  cut : before ++ changed_from name node is_put (line ∷ drop (i + 1) drawer) ≡ whole
  cut = ap (λ ls. before ++ changed_from name node is_put ls) (sym (cut_at drawer i line there)) ∙ all

  pub put_end : (middle after : List ℕ) → is_drawer_end line ≡ true → middle ≡ before ++ unless_put is_put node → after ≡ middle ++ line → after ++ changed_from name node true (drop (i + 1) drawer) ≡ whole
  put_end middle after ends one two =
      let rest = changed_from name node true (drop (i + 1) drawer) in
      let step : before ++ ((unless_put is_put node ++ line) ++ rest) ≡ whole = rw ends at cut in
      ap (λ a. a ++ rest) (two ∙ ap (λ m. m ++ line) one)
      ∙ (append_assoc (before ++ unless_put is_put node) line rest
      ∙ (append_assoc before (unless_put is_put node) (line ++ rest) ∙ (ap (λ t. before ++ t) (sym (append_assoc (unless_put is_put node) line rest)) ∙ step)))

  pub put_given : (after : List ℕ) → is_drawer_end line ≡ false → gives name line ≡ true → after ≡ before ++ unless_put is_put node → after ++ changed_from name node true (drop (i + 1) drawer) ≡ whole
  put_given after goes_on given one =
      let rest = changed_from name node true (drop (i + 1) drawer) in
      let step : before ++ (unless_put is_put node ++ rest) ≡ whole = rw (goes_on, given) at cut in
      ap (λ a. a ++ rest) one ∙ (append_assoc before (unless_put is_put node) rest ∙ step)

  pub put_other : (after : List ℕ) → is_drawer_end line ≡ false → gives name line ≡ false → after ≡ before ++ line → after ++ changed_from name node is_put (drop (i + 1) drawer) ≡ whole
  put_other after goes_on other one =
      let rest = changed_from name node is_put (drop (i + 1) drawer) in
      let step : before ++ (line ++ rest) ≡ whole = rw (goes_on, other) at cut in
      ap (λ a. a ++ rest) one ∙ (append_assoc before line rest ∙ step)

pub put_none : (name node : List ℕ) (is_put : Bool) (drawer : List (List ℕ)) (i : ℕ) (lines whole : List ℕ) → length drawer ≤ i → lines ++ changed_from name node is_put (drop i drawer) ≡ whole → lines ≡ whole
put_none name node is_put drawer i lines whole past all =
    sym (append-nil lines) ∙ (ap (λ ls. lines ++ changed_from name node is_put ls) (sym (drop_all i drawer past)) ∙ all)

-- one more line says it, or says nothing of it

module _ (name value : List ℕ) (is_said : Bool) (drawer : List (List ℕ)) (i : ℕ) (line : List ℕ) (whole : Bool) (there : slice_get drawer i ≡ Some line) (all : says_once name value is_said (drop i drawer) ≡ whole) where
  cut_said : says_once name value is_said (line ∷ drop (i + 1) drawer) ≡ whole
  cut_said = ap (says_once name value is_said) (sym (cut_at drawer i line there)) ∙ all

  pub once_other : is_given name line ≡ false → says_once name value is_said (drop (i + 1) drawer) ≡ whole
  once_other other = rw other at cut_said

  pub once_more : is_given name line ≡ true → (not is_said && gives_value value line) ≡ true → says_once name value true (drop (i + 1) drawer) ≡ whole
  once_more given first = by is_said first cut_said
    where
      by : (b : Bool) → (not b && gives_value value line) ≡ true → says_once name value b (line ∷ drop (i + 1) drawer) ≡ whole → says_once name value true (drop (i + 1) drawer) ≡ whole
      by true e h = absurd cc
      by false e h = rw (given, e) at h

  pub once_wrong : is_given name line ≡ true → (not is_said && gives_value value line) ≡ false → false ≡ whole
  once_wrong given wrong = by is_said wrong cut_said
    where
      by : (b : Bool) → (not b && gives_value value line) ≡ false → says_once name value b (line ∷ drop (i + 1) drawer) ≡ whole → false ≡ whole
      by true e h = rw given at h
      by false e h = rw (given, e) at h
