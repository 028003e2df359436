-- Components one after the other.
use Rattle.std.proofs.Common.{◌≡◌, ◌∙◌, ◌+◌, ℕ, cond, inl, inr, List, [], ◌∷◌, ◌++◌, sym, ap, append-nil, arith}
use Rattle.std.specs.Prelude.{bytes_eq}
use Rattle.std.proofs.lemmas.Bool.{cases_Bool}
use Rattle.std.proofs.lemmas.List.{append_assoc}
use Rattle.std.proofs.lemmas.List.Concat.{flat_map-append}
use Rattle.std.proofs.lemmas.Slice.Eq.{bytes_eq-Decides}
use Rattle.org_ical.specs.Components.{ComponentText, component_lines, components_lines}
use Rattle.org_ical.specs.Counts.{AreCounted, Counts, count_of}
use Rattle.org_ical.specs.Lines.{written, written_line}
use Rattle.org_ical.specs.Uids.{times_in, uid_text}
use Rattle.org_ical.proofs.UidLemmas.{times_more}

-- lines after lines
pub written-append : (a b : List (List ℕ)) → written (a ++ b) ≡ written a ++ written b
written-append a b = flat_map-append written_line a b

-- a line, or lines, and what is written behind
pub then_line : (out more target line : List ℕ) (rest : List (List ℕ)) → more ≡ out ++ written_line line → target ≡ more ++ written rest → target ≡ out ++ written (line ∷ rest)
then_line out more target line rest first goes =
    goes ∙ ap (λ t. t ++ written rest) first ∙ append_assoc out (written_line line) (written rest)

pub then_lines : (out more target : List ℕ) (lines rest : List (List ℕ)) → more ≡ out ++ written lines → target ≡ more ++ written rest → target ≡ out ++ written (lines ++ rest)
then_lines out more target lines rest first goes =
    goes ∙ ap (λ t. t ++ written rest) first ∙ append_assoc out (written lines) (written rest) ∙ ap (λ t. out ++ t) (sym (written-append lines rest))

pub last_line : (out target line : List ℕ) → target ≡ out ++ written_line line → target ≡ out ++ written (line ∷ [])
last_line out target line first = first ∙ ap (λ t. out ++ t) (sym (append-nil (written_line line)))

pub counted_more : (counts : Counts) (seen : List (List ℕ)) (key q : List ℕ) → AreCounted counts seen →
    cond (bytes_eq q key) (count_of counts key + 1) (count_of counts q) ≡ times_in q (key ∷ seen)
counted_more counts seen key q counted =
    elim (cases_Bool (bytes_eq q key)) [
      | inl here ↦
          let same : q ≡ key = (bytes_eq-Decides q key).0 here in
          let more : times_in q (key ∷ seen) ≡ 1 + times_in q seen = times_more q key seen ∙ ap (λ b. cond b 1 0 + times_in q seen) here in
          let moved : times_in q seen ≡ times_in key seen = ap (λ t. times_in t seen) same in
          let own : count_of counts key ≡ times_in key seen = counted key in
          ap (λ b. cond b (count_of counts key + 1) (count_of counts q)) here ∙ omega (arith, more, moved, own)
      | inr other ↦
          let more : times_in q (key ∷ seen) ≡ 0 + times_in q seen = times_more q key seen ∙ ap (λ b. cond b 1 0 + times_in q seen) other in
          let own : count_of counts q ≡ times_in q seen = counted q in
          ap (λ b. cond b (count_of counts key + 1) (count_of counts q)) other ∙ omega (arith, more, own)
    ]

-- a component is written, and what is left goes on
pub components_more : (stamp key uid : List ℕ) (seen : List (List ℕ)) (item : ComponentText) (rest left : List ComponentText) (out new target : List ℕ) →
    left ≡ item ∷ rest → item.key ≡ key → uid ≡ uid_text key (times_in key seen + 1) → new ≡ out ++ written (component_lines stamp uid item) →
    out ++ written (components_lines stamp seen left) ≡ target → new ++ written (components_lines stamp (key ∷ seen) rest) ≡ target
components_more stamp key uid seen item rest left out new target parts own named added told =
    let more = components_lines stamp (key ∷ seen) rest in
    ap (λ t. t ++ written more) added
    ∙ append_assoc out (written (component_lines stamp uid item)) (written more)
    ∙ ap (λ t. out ++ t) (sym (written-append (component_lines stamp uid item) more))
    ∙ ap (λ u. out ++ written (component_lines stamp u item ++ more)) named
    ∙ ap (λ k. out ++ written (component_lines stamp (uid_text k (times_in k seen + 1)) item ++ components_lines stamp (k ∷ seen) rest)) (sym own)
    ∙ ap (λ l. out ++ written (components_lines stamp seen l)) (sym parts)
    ∙ told

-- a calendar is its first lines, its components and its last line
pub whole : (begin version product end : List ℕ) (lines : List (List ℕ)) (o0 o1 o2 o3 o4 o5 : List ℕ) → o0 ≡ [] →
    o1 ≡ o0 ++ written_line begin → o2 ≡ o1 ++ written_line version → o3 ≡ o2 ++ written_line product → o4 ≡ o3 ++ written lines → o5 ≡ o4 ++ written_line end →
    o5 ≡ written (begin ∷ version ∷ product ∷ (lines ++ end ∷ []))
whole begin version product end lines o0 o1 o2 o3 o4 o5 none a b c d e =
    let front : o3 ≡ (written_line begin ++ written_line version) ++ written_line product =
    c ∙ ap (λ t. t ++ written_line product) (b ∙ ap (λ t. t ++ written_line version) (a ∙ ap (λ t. t ++ written_line begin) none)) in
    let B = written_line begin in
    let V = written_line version in
    let R = written_line product in
    let E = written_line end in
    e ∙ ap (λ t. t ++ E) (d ∙ ap (λ t. t ++ written lines) front)
    ∙ append_assoc ((B ++ V) ++ R) (written lines) E
    ∙ append_assoc (B ++ V) R (written lines ++ E)
    ∙ append_assoc B V (R ++ (written lines ++ E))
    ∙ ap (λ t. B ++ (V ++ (R ++ (written lines ++ t)))) (sym (append-nil E))
    ∙ ap (λ t. B ++ (V ++ (R ++ t))) (sym (written-append lines (end ∷ [])))
