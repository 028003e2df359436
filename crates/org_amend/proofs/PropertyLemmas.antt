-- The property drawer under a heading that is changed.
use Rattle.std.proofs.Common.{◌≡◌, ◌∙◌, ℕ, Bool, true, false, not, ◌&&◌, ◌==◌, inl, inr, List, [], ◌∷◌, ◌++◌, length, map, take, drop, get_or, refl, sym, ap, append_assoc, append-nil}
use Rattle.std.specs.Prelude.{Option, Some, None, if◌then◌else◌, codes, bytes_eq}
use Rattle.std.specs.List.{concat, list_all, list_any}
use Rattle.std.specs.Char.{to_ascii_lowercase}
use Rattle.std.specs.Option.{option_map}
use Rattle.std.specs.Str.{is_utf8}
use Rattle.std.proofs.lemmas.Bool.{and_parts, cases_Bool}
use Rattle.std.proofs.lemmas.Slice.Eq.{bytes_eq-Decides}
use Rattle.org_amend.specs.DrawerPuts.{Put, changed_by, changed_drawer, changed_found, ended_drawer, is_line, made_drawer, may_go, put_text, unended_drawer, value_by, with_node}
use Rattle.org_amend.specs.Planning.{ends_like}
use Rattle.org_amend.specs.PropertyChanges.{all_give, behind_opening, changed_nodes, drawer_at, drawer_of, gives, gives_value, is_node_of, node_line, node_of, nodes_from, says_once}
use Rattle.org_amend.specs.PropertyLaws.{IsBreak, IsDrawer, IsGapOrNone, IsGiven, PropertiesAreGiven, SaysAlone}
use Rattle.org_amend.specs.declared.property_change.PropertyChange.{PropertyChange}
use Rattle.org_amend.proofs.NodeLemmas.{Alone, concat_put, from_map, all_any, all_gone, any_all, listed, listed_all, listed_bytes, listed_given, listed_others, nodes_there, said_alone}
use Rattle.org_base.specs.Words.{same_word}
use Rattle.org_class.specs.Drawers.{is_drawer_end, is_drawer_open}
use Rattle.org_drawer.specs.Node.{is_node}
use Rattle.org_lines.specs.Cuts.{lines}
use Rattle.org_lines.proofs.LineLemmas.{concat-lines}
use Rattle.org_stamp.proofs.SpacedLemmas.{take_front}

-- a put that is text

text_put : (deleted : ℕ) (bytes : List ℕ) (put : Put) → put_text deleted bytes ≡ Some put → (put.deleted ≡ deleted) × (put.inserted ≡ bytes)
text_put deleted bytes put e = elim (cases_Bool (is_utf8 bytes)) [
  | inl text ↦
      let is : ◌≡◌ {A = Option Put} (Some (record { deleted = deleted; inserted = bytes })) (Some put) = rw text at e in
      let same : record { deleted = deleted; inserted = bytes } ≡ put = cc in
      (sym (ap (λ (p : Put). p.deleted) same), sym (ap (λ (p : Put). p.inserted) same))
  | inr none ↦ absurd (let wrong : ◌≡◌ {A = Option Put} None (Some put) = rw none at e in cc)
]

if_some : {A : Type 0} (test : Bool) (o : Option A) (x : A) → (if test then o else None) ≡ Some x → (test ≡ true) × (o ≡ Some x)
if_some true o x e = (refl, e)
if_some false o x e = absurd cc

-- the line of a property

record Line (name value node : List ℕ) : Type 0 where
  pub stays : is_drawer_end node ≡ false
  pub is_one : is_node node ≡ true
  pub gives_it : gives name node ≡ true
  pub value_is : gives_value value node ≡ true

not_false : (b : Bool) → not b ≡ true → b ≡ false
not_false false h = refl
not_false true h = absurd cc

line_there : (name value beside node : List ℕ) → is_line name value beside node ≡ true → Line name value node
line_there name value beside node h =
    let both = and_parts (not (is_drawer_end node) && ends_like beside node) (is_node_of name value node) h in
    let first = and_parts (not (is_drawer_end node)) (ends_like beside node) both.0 in
    let parts = and_parts (is_node node) _ both.1 in
    let rest = and_parts _ (gives_value value node) parts.1 in
    record { stays = not_false (is_drawer_end node) first.0; is_one = parts.0; gives_it = same_name name node parts.0 rest.0; value_is = rest.1 }
  where
    same_name : (name node : List ℕ) → is_node node ≡ true → bytes_eq (node_of node).name name ≡ true → gives name node ≡ true
    same_name name node is h =
        let same : (node_of node).name ≡ name = (bytes_eq-Decides (node_of node).name name).0 h in
        let folded : same_word (node_of node).name name ≡ true =
        ap (λ n. same_word n name) same ∙ (bytes_eq-Decides (map to_ascii_lowercase name) (map to_ascii_lowercase name)).1 refl in
        rw is folded

alone_by : (name value node : List ℕ) → Line name value node → Alone name (node ∷ [])
alone_by name value node l = record { given = rw l.gives_it refl; others = rw l.gives_it refl }

-- the drawer that stands there

record Stands (below : List ℕ) (drawer : List (List ℕ)) : Type 0 where
  pub first : List ℕ
  pub last : List ℕ
  pub nodes : List (List ℕ)
  pub rest : List ℕ
  pub drawer_is : drawer ≡ first ∷ (nodes ++ last ∷ [])
  pub below_is : below ≡ concat drawer ++ rest
  pub opens : is_drawer_open first ≡ true
  pub are_nodes : list_all is_node nodes ≡ true
  pub none_ends : list_any is_drawer_end nodes ≡ false
  pub ends : is_drawer_end last ≡ true

stands_by : (below : List ℕ) (ls drawer : List (List ℕ)) → lines below ≡ ls → drawer_at ls ≡ Some drawer → Stands below drawer
stands_by below [] drawer e found = absurd cc
stands_by below (l ∷ ls) drawer e found =
    let opened = if_some (is_drawer_open l) (option_map (λ d. l ∷ d) (nodes_from ls)) drawer found in
    let m = from_map l (nodes_from ls) drawer opened.1 in
    let n = nodes_there ls m.tail m.was in
    let drawer_is : drawer ≡ l ∷ (n.nodes ++ n.last ∷ []) = m.is ∙ ap (λ t. l ∷ t) n.drawer_is in
    let whole : drawer ++ n.rest ≡ l ∷ ls =
    ap (λ d. d ++ n.rest) drawer_is ∙ (ap (λ t. l ∷ t) (append_assoc n.nodes (n.last ∷ []) n.rest) ∙ ap (λ t. l ∷ t) (sym n.ls_is)) in
    record {
      first = l;
      last = n.last;
      nodes = n.nodes;
      rest = concat n.rest;
      drawer_is = drawer_is;
      below_is = sym (concat-lines below) ∙ (ap concat (e ∙ sym whole) ∙ concat_put drawer n.rest);
      opens = opened.0;
      are_nodes = n.are_nodes;
      none_ends = n.none_ends;
      ends = n.ends;
    }

own_drawer : (below : List ℕ) (drawer : List (List ℕ)) (s : Stands below drawer) → IsDrawer drawer s.nodes
own_drawer below drawer s =
    record { first = s.first; last = s.last; drawer_is = s.drawer_is; opens = s.opens; are_nodes = s.are_nodes; none_ends = s.none_ends; ends = s.ends }

-- it stays, goes, or has other node lines

module _ (name : List ℕ) (below : List ℕ) (drawer : List (List ℕ)) (s : Stands below drawer) (put : Put) (deleted_is : put.deleted ≡ length (concat drawer)) where
  behind : behind_opening drawer ≡ s.nodes ++ s.last ∷ []
  behind = ap behind_opening s.drawer_is

  it_goes : put.inserted ≡ [] → all_give name (behind_opening drawer) ≡ true → IsGiven name None below put
  it_goes is all = record {
    old = drawer;
    old_nodes = s.nodes;
    gap = [];
    new = [];
    new_nodes = [];
    rest = s.rest;
    below_is = s.below_is;
    deleted_is = deleted_is;
    inserted_is = is;
    gap_is = inl refl;
    was = inr (own_drawer below drawer s);
    is = inl (refl, refl);
    says = refl;
    others = sym (all_gone name s.nodes s.last s.none_ends (sym (ap (all_give name) behind) ∙ all));
  }

  it_stays : (value : List ℕ) → put.inserted ≡ take (length (concat drawer)) below → says_once name value false (behind_opening drawer) ≡ true → IsGiven name (Some value) below put
  it_stays value is said = record {
    old = drawer;
    old_nodes = s.nodes;
    gap = [];
    new = drawer;
    new_nodes = s.nodes;
    rest = s.rest;
    below_is = s.below_is;
    deleted_is = deleted_is;
    inserted_is = is ∙ (ap (take (length (concat drawer))) s.below_is ∙ take_front (concat drawer) s.rest);
    gap_is = inl refl;
    was = inr (own_drawer below drawer s);
    is = inr (own_drawer below drawer s);
    says = said_alone name value s.nodes s.last s.none_ends s.ends (sym (ap (says_once name value false) behind) ∙ said);
    others = refl;
  }

  it_changes : (value : Option (List ℕ)) (node : List ℕ) (ns : List (List ℕ)) → concat ns ≡ node → Alone name ns → list_all is_node ns ≡ true → list_all (λ l. not (is_drawer_end l)) ns ≡ true →
      SaysAlone name value (listed name ns false s.nodes) → put.inserted ≡ changed_nodes name node drawer → IsGiven name value below put
  it_changes value node ns same alone nodes stay says is = record {
    old = drawer;
    old_nodes = s.nodes;
    gap = [];
    new = s.first ∷ (listed name ns false s.nodes ++ s.last ∷ []);
    new_nodes = listed name ns false s.nodes;
    rest = s.rest;
    below_is = s.below_is;
    deleted_is = deleted_is;
    inserted_is = is ∙ (ap (changed_nodes name node) s.drawer_is ∙ ap (λ t. s.first ++ t) (listed_bytes name node ns false s.nodes s.last same s.none_ends s.ends));
    gap_is = inl refl;
    was = inr (own_drawer below drawer s);
    is = inr (record {
      first = s.first;
      last = s.last;
      drawer_is = refl;
      opens = s.opens;
      are_nodes = listed_all is_node name ns false s.nodes nodes s.are_nodes;
      none_ends = all_any is_drawer_end (listed name ns false s.nodes) (listed_all (λ l. not (is_drawer_end l)) name ns false s.nodes stay (any_all is_drawer_end s.nodes s.none_ends));
      ends = s.ends;
    });
    says = says;
    others = listed_others name ns false s.nodes alone;
  }

by_line : (name value : List ℕ) (below : List ℕ) (drawer : List (List ℕ)) (s : Stands below drawer) (put : Put) (node : List ℕ) → put.deleted ≡ length (concat drawer) → Line name value node →
    put.inserted ≡ changed_nodes name node drawer → IsGiven name (Some value) below put
by_line name value below drawer s put node deleted l is =
    it_changes name below drawer s put deleted (Some value) node (node ∷ []) (append-nil node) (alone_by name value node l) (rw l.is_one refl) (rw l.stays refl)
    (node, listed_given name (node ∷ []) false s.nodes (alone_by name value node l), l.value_is) is

of_found : (name : List ℕ) (value : Option (List ℕ)) (below : List ℕ) (drawer : List (List ℕ)) (put : Put) → Stands below drawer → changed_by name value below (length (concat drawer)) drawer ≡ Some put → IsGiven name value below put
of_found name None below drawer put s e = elim (cases_Bool (all_give name (behind_opening drawer) && may_go (drop (length (concat drawer)) below))) [
  | inl goes ↦
      let t = text_put (length (concat drawer)) [] put (rw goes at e) in
      it_goes name below drawer s put t.0 t.1 (and_parts (all_give name (behind_opening drawer)) _ goes).0
  | inr stays ↦
      let t = text_put (length (concat drawer)) (changed_nodes name [] drawer) put (rw stays at e) in
      it_changes name below drawer s put t.0 None [] [] refl (record { given = refl; others = refl }) refl refl
      (listed_given name [] false s.nodes (record { given = refl; others = refl })) t.1
]
of_found name (Some value) below drawer put s e = elim (cases_Bool (says_once name value false (behind_opening drawer))) [
  | inl said ↦
      let t = text_put (length (concat drawer)) (take (length (concat drawer)) below) put (rw said at e) in
      it_stays name below drawer s put t.0 value t.1 said
  | inr other ↦
      let node = node_line name value (get_or drawer 0 []) in
      let e1 : with_node name value (length (concat drawer)) drawer node ≡ Some put = rw other at e in
      let read = if_some (is_line name value (get_or drawer 0 []) node) (put_text (length (concat drawer)) (changed_nodes name node drawer)) put e1 in
      let t = text_put (length (concat drawer)) (changed_nodes name node drawer) put read.1 in
      by_line name value below drawer s put node t.0 (line_there name value (get_or drawer 0 []) node read.0) t.1
]

-- a drawer that is made

made : (name value below node gap first last : List ℕ) (put : Put) → IsGapOrNone gap → Line name value node → is_drawer_open first ≡ true → is_drawer_end last ≡ true → put.deleted ≡ 0 → put.inserted ≡ gap ++ (first ++ (node ++ last)) →
    IsGiven name (Some value) below put
made name value below node gap first last put gap_is l opens ends deleted is = record {
  old = [];
  old_nodes = [];
  gap = gap;
  new = first ∷ (node ∷ (last ∷ []));
  new_nodes = node ∷ [];
  rest = below;
  below_is = refl;
  deleted_is = deleted;
  inserted_is = is ∙ ap (λ t. gap ++ (first ++ (node ++ t))) (sym (append-nil last));
  gap_is = gap_is;
  was = inl (refl, refl);
  is = inr (record { first = first; last = last; drawer_is = refl; opens = opens; are_nodes = rw l.is_one refl; none_ends = rw l.stays refl; ends = ends });
  says = (node, (alone_by name value node l).given, l.value_is);
  others = (alone_by name value node l).others;
}

opens_with : (end : List ℕ) → IsBreak end → is_drawer_open (codes ":PROPERTIES:" ++ end) ≡ true
opens_with end (inl e) = rw e refl
opens_with end (inr (inl e)) = rw e refl
opens_with end (inr (inr e)) = rw e refl

ends_with : (end : List ℕ) → IsBreak end → is_drawer_end (codes ":END:" ++ end) ≡ true
ends_with end (inl e) = rw e refl
ends_with end (inr (inl e)) = rw e refl
ends_with end (inr (inr e)) = rw e refl

drawer_parts : (node end last : List ℕ) → drawer_of node end last ≡ (codes ":PROPERTIES:" ++ end) ++ (node ++ (codes ":END:" ++ last))
drawer_parts node end last =
    append_assoc ((codes ":PROPERTIES:" ++ end) ++ node) (codes ":END:") last ∙ append_assoc (codes ":PROPERTIES:" ++ end) node (codes ":END:" ++ last)

of_ended : (name value below end : List ℕ) (put : Put) → IsBreak end → ended_drawer name value end ≡ Some put → IsGiven name (Some value) below put
of_ended name value below end put breaks e =
    let node = node_line name value end in
    let read = if_some (is_line name value end node) (put_text 0 (drawer_of node end end)) put e in
    let t = text_put 0 (drawer_of node end end) put read.1 in
    made name value below node [] (codes ":PROPERTIES:" ++ end) (codes ":END:" ++ end) put (inl refl) (line_there name value end node read.0) (opens_with end breaks) (ends_with end breaks) t.0
    (t.1 ∙ drawer_parts node end end)

of_unended : (name value below : List ℕ) (put : Put) → unended_drawer name value ≡ Some put → IsGiven name (Some value) below put
of_unended name value below put e =
    let feed = codes "\n" in
    let node = node_line name value feed in
    let read = if_some (is_line name value feed node) (put_text 0 (feed ++ drawer_of node feed [])) put e in
    let t = text_put 0 (feed ++ drawer_of node feed []) put read.1 in
    made name value below node feed (codes ":PROPERTIES:" ++ feed) (codes ":END:" ++ []) put (inr refl) (line_there name value feed node read.0) (opens_with feed (inr (inl refl))) (ends_with [] (inl refl)) t.0
    (t.1 ∙ ap (λ d. feed ++ d) (drawer_parts node feed []))

of_made : (name : List ℕ) (value : Option (List ℕ)) (below end : List ℕ) (put : Put) → IsBreak end → made_drawer name value end ≡ Some put → IsGiven name value below put
of_made name None below end put breaks e =
    let t = text_put 0 [] put e in
    record {
      old = [];
      old_nodes = [];
      gap = [];
      new = [];
      new_nodes = [];
      rest = below;
      below_is = refl;
      deleted_is = t.0;
      inserted_is = t.1;
      gap_is = inl refl;
      was = inl (refl, refl);
      is = inl (refl, refl);
      says = refl;
      others = refl;
    }
of_made name (Some value) below end put breaks e = elim (cases_Bool (length end == 0)) [
  | inl none ↦ of_unended name value below put (rw none at e)
  | inr some ↦ of_ended name value below end put breaks (rw some at e)
]

by_found : (change : PropertyChange) (below end : List ℕ) (put : Put) (found : Option (List (List ℕ))) → IsBreak end → drawer_at (lines below) ≡ found → changed_found change below end found ≡ Some put → IsGiven change.name.now (value_by change) below put
by_found change below end put None breaks there e = of_made change.name.now (value_by change) below end put breaks e
by_found change below end put (Some drawer) breaks there e = of_found change.name.now (value_by change) below drawer put (stands_by below (lines below) drawer refl there) e

pub properties_are_given : PropertiesAreGiven
unfolding changed_drawer
properties_are_given change below end put breaks e = by_found change below end put (drawer_at (lines below)) breaks refl e
