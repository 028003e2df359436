-- Drawers at their place.
use Rattle.std.proofs.Common.{◌≡◌, inl, inr, ℕ, true, false, ◌&&◌, List, [], ◌∷◌, ◌++◌, length, replicate, refl, ap, ◌∙◌, None}
use Rattle.std.proofs.lemmas.Bool.{cases_Bool, and_parts, and_from, or_parts, or_from}
use Rattle.std.specs.List.{list_all, list_any}
use Rattle.org_class.specs.Blocks.{body_classes}
use Rattle.org_drawer.specs.Node.{is_node}
use Rattle.org_class.specs.Drawers.{is_drawer_open, is_drawer_end, closes_drawer, drawer_classes, classes_below}
use Rattle.org_class.specs.Laws.{DrawersAreFound, OthersAreBodies}
use Rattle.org_class.specs.declared.class.Class.TheVariants.{DrawerOpen, Node, DrawerEnd}

pub closed : (nodes : List (List ℕ)) (e : List ℕ) (rest : List (List ℕ)) → list_all is_node nodes ≡ true → is_drawer_end e ≡ true → closes_drawer (nodes ++ e ∷ rest) ≡ true
closed [] e rest a h = rw h refl
closed (n ∷ nodes) e rest a h =
    let both = and_parts (is_node n) (list_all is_node nodes) a in
    elim (cases_Bool (is_drawer_end n)) [
      | inl y ↦ rw y refl
      | inr y ↦ rw (y, both.0, closed nodes e rest both.1 h) refl
    ]

classed : (nodes : List (List ℕ)) (e : List ℕ) (rest : List (List ℕ)) → list_any is_drawer_end nodes ≡ false → is_drawer_end e ≡ true → drawer_classes (nodes ++ e ∷ rest) ≡ replicate (length nodes) Node ++ DrawerEnd ∷ body_classes None rest
classed [] e rest o h = rw h refl
classed (n ∷ nodes) e rest o h =
    let both = or_parts (is_drawer_end n) (list_any is_drawer_end nodes) o in
    rw (both.0, classed nodes e rest both.1 h) refl

pub drawers_are_found : DrawersAreFound
drawers_are_found ls nodes rest d =
    ap classes_below d.spelled
    ∙ rw (d.opens, closed nodes d.last rest d.are_nodes d.ends) (ap (λ cs. DrawerOpen ∷ cs) (classed nodes d.last rest d.none_ends d.ends))

-- where a drawer is closed: its nodes and its end
pub record Closing (ls : List (List ℕ)) : Type 0 where
  pub nodes : List (List ℕ)
  pub last : List ℕ
  pub rest : List (List ℕ)
  pub spelled : ls ≡ nodes ++ last ∷ rest
  pub are_nodes : list_all is_node nodes ≡ true
  pub none_ends : list_any is_drawer_end nodes ≡ false
  pub ends : is_drawer_end last ≡ true

pub closing : (ls : List (List ℕ)) → closes_drawer ls ≡ true → Closing ls
closing [] h = absurd cc
closing (l ∷ ls) h = elim (cases_Bool (is_drawer_end l)) [
  | inl y ↦ record { nodes = []; last = l; rest = ls; spelled = refl; are_nodes = refl; none_ends = refl; ends = y }
  | inr y ↦
      let both = and_parts (is_node l) (closes_drawer ls) (let t : (is_node l && closes_drawer ls) ≡ true = rw y at h in t) in
      let more = closing ls both.1 in
      record {
        nodes = l ∷ more.nodes;
        last = more.last;
        rest = more.rest;
        spelled = ap (λ xs. l ∷ xs) more.spelled;
        are_nodes = and_from (is_node l) (list_all is_node more.nodes) both.0 more.are_nodes;
        none_ends = or_from (is_drawer_end l) (list_any is_drawer_end more.nodes) y more.none_ends;
        ends = more.ends;
      }
]

pub others_are_bodies : OthersAreBodies
others_are_bodies [] n = refl
others_are_bodies (l ∷ ls) n = elim (cases_Bool (is_drawer_open l)) [
  | inl o ↦ elim (cases_Bool (closes_drawer ls)) [
    | inl c ↦
        let d = closing ls c in
        absurd (n d.nodes d.rest (record { first = l; last = d.last; spelled = ap (λ xs. l ∷ xs) d.spelled; opens = o; are_nodes = d.are_nodes; none_ends = d.none_ends; ends = d.ends }))
    | inr c ↦ rw (o, c) refl
  ]
  | inr o ↦ rw o refl
]
