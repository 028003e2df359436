-- One more bar in a lane.
use Rattle.std.proofs.Common.{◌≡◌, ℕ, ◌+◌, ◌<◌, ◌≤◌, List, [], ◌∷◌, ◌++◌, get_or, length, sym, ap, ◌∙◌, ⊎_elim, append_assoc, arith, below_more}
use Rattle.std.proofs.lemmas.Bool.{cases_eq}
use Rattle.std.proofs.lemmas.List.{get_or_append_left, get_or_push}
use Rattle.org_look.specs.FreeLanes.{free_after, lane_of, lanes_from}
use Rattle.org_look.specs.declared.span.Span.{Span}

abbrev pub Apart : ℕ → List ℕ → List ℕ → List ℕ → ℕ → Type 0
Apart n lanes firsts lasts most =
    (i j : ℕ) → i < j → j < n → get_or lanes i 0 ≡ get_or lanes j 0 → get_or lanes i 0 < most → get_or lasts i 0 < get_or firsts j 0

abbrev pub Held : ℕ → List ℕ → List ℕ → List ℕ → ℕ → Type 0
Held n lanes lasts free most = (i : ℕ) → i < n → get_or lanes i 0 < most → get_or lasts i 0 < get_or free (get_or lanes i 0) 0

held_more : (n lane most : ℕ) (lanes lasts free taken : List ℕ) → length lanes ≡ n → (lane < most → get_or lasts n 0 < get_or taken lane 0) →
    ((k : ℕ) → get_or free k 0 ≤ get_or taken k 0) → Held n lanes lasts free most → Held (n + 1) (lanes ++ lane ∷ []) lasts taken most
held_more n lane most lanes lasts free taken len ends grows held =
    let here : get_or (lanes ++ lane ∷ []) n 0 ≡ lane = get_or_push lanes lane 0 n len in
    below_more (λ i. get_or (lanes ++ lane ∷ []) i 0 < most → get_or lasts i 0 < get_or taken (get_or (lanes ++ lane ∷ []) i 0) 0) n
    (λ i below is_lane.
    let e : get_or (lanes ++ lane ∷ []) i 0 ≡ get_or lanes i 0 = get_or_append_left lanes (lane ∷ []) 0 i (omega (arith, len, below)) in
    let before : get_or lasts i 0 < get_or free (get_or lanes i 0) 0 = held i below (omega (arith, e, is_lane)) in
    omega (arith, before, grows (get_or lanes i 0), ap (λ k. get_or taken k 0) e))
    (λ is_lane.
    let after : get_or lasts n 0 < get_or taken lane 0 = ends (omega (arith, here, is_lane)) in
    omega (arith, after, ap (λ k. get_or taken k 0) here))

apart_more : (n lane most : ℕ) (lanes firsts lasts free : List ℕ) → length lanes ≡ n → (lane < most → get_or free lane 0 ≤ get_or firsts n 0) →
    Apart n lanes firsts lasts most → Held n lanes lasts free most → Apart (n + 1) (lanes ++ lane ∷ []) firsts lasts most
apart_more n lane most lanes firsts lasts free len begins apart held i j lt below same is_lane =
    let own : get_or (lanes ++ lane ∷ []) i 0 ≡ get_or lanes i 0 = get_or_append_left lanes (lane ∷ []) 0 i (omega (arith, len, lt, below)) in
    ⊎_elim
    (λ at.
    let here : get_or (lanes ++ lane ∷ []) j 0 ≡ lane = ap (λ k. get_or (lanes ++ lane ∷ []) k 0) at ∙ get_or_push lanes lane 0 n len in
    let e : get_or lanes i 0 ≡ lane = sym own ∙ same ∙ here in
    let before : get_or lasts i 0 < get_or free (get_or lanes i 0) 0 = held i (omega (arith, lt, at)) (omega (arith, own, is_lane)) in
    let start : get_or free lane 0 ≤ get_or firsts n 0 = begins (omega (arith, own, e, is_lane)) in
    omega (arith, before, ap (λ k. get_or free k 0) e, start, ap (λ k. get_or firsts k 0) at))
    (λ off.
    let under : j < n = omega (arith, below, off) in
    let other : get_or (lanes ++ lane ∷ []) j 0 ≡ get_or lanes j 0 = get_or_append_left lanes (lane ∷ []) 0 j (omega (arith, len, under)) in
    apart i j lt under (sym own ∙ same ∙ other) (omega (arith, own, is_lane))) (cases_eq j n)

pub placed_more : (n lane most first last : ℕ) (lanes firsts lasts free taken : List ℕ) → length lanes ≡ n → get_or firsts n 0 ≡ first → get_or lasts n 0 ≡ last →
    (lane < most → get_or free lane 0 ≤ first) → (lane < most → last < get_or taken lane 0) → ((k : ℕ) → get_or free k 0 ≤ get_or taken k 0) →
    Apart n lanes firsts lasts most → Held n lanes lasts free most →
    Apart (n + 1) (lanes ++ lane ∷ []) firsts lasts most × Held (n + 1) (lanes ++ lane ∷ []) lasts taken most
placed_more n lane most first last lanes firsts lasts free taken len is_first is_last begins ends grows apart held = (
  apart_more n lane most lanes firsts lasts free len (λ h. let b = begins h in omega (arith, b, is_first)) apart held,
  held_more n lane most lanes lasts free taken len (λ h. let b = ends h in omega (arith, b, is_last)) grows held,
)

-- a bar's lane, and those of the bars that are left once it has it, stand behind the lanes so far
pub lanes_step : (most lane : ℕ) (lanes new free next all : List ℕ) (span : Span) (left rest : List Span) → new ≡ lanes ++ lane ∷ [] → lane ≡ lane_of most free span →
    next ≡ free_after most free span → lanes_from most free left ≡ lanes_from most free (span ∷ rest) → lanes ++ lanes_from most free left ≡ all → new ++ lanes_from most next rest ≡ all
lanes_step most lane lanes new free next all span left rest pushed is_lane is_next cut so_far =
    ap (λ s. s ++ lanes_from most next rest) pushed
    ∙ (append_assoc lanes (lane ∷ []) (lanes_from most next rest)
    ∙ (ap (λ l. lanes ++ l ∷ lanes_from most next rest) is_lane
    ∙ (ap (λ f. lanes ++ lane_of most free span ∷ lanes_from most f rest) is_next
    ∙ (ap (λ r. lanes ++ r) (sym cut) ∙ so_far))))
