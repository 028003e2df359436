-- The patterns of an expression are those of its items, and each is one of the dialect.
use Rattle.std.proofs.Common.{◌≡◌, ◌∙◌, ℕ, ◌+◌, ◌<◌, List, [], ◌∷◌, ◌++◌, append-nil, ap, get_or, length, map, subst, sym, take}
use Rattle.std.specs.Option.{option_to_list}
use Rattle.std.proofs.lemmas.List.{map-append, take_more}
use Rattle.std.proofs.lemmas.List.Concat.{flat_map-append}
use Rattle.std.proofs.lemmas.List.Elements.{All-append}
use Rattle.org_expression.specs.Grammar.{Item}
use Rattle.org_expression.specs.Tree.{expr_of, item_of, term_of}
use Rattle.org_expression.specs.declared.tree.Item.{Item as Written}
use Rattle.org_expression.specs.declared.tree.Kind.{Kind}
use Rattle.org_expression.specs.declared.tree.Kind.TheVariants.{Tags, Todo, Open}
use Rattle.org_match.specs.Patterns.{IsReadable}
use Rattle.org_match.specs.Refusal.{AreReadable, item_pattern, item_patterns, patterns, term_pattern}

abbrev own : Item → List (List ℕ)
own i = option_to_list (item_pattern i)

-- one item more
pub one_more : (items : List Written) (i : ℕ) (x : Written) → i < length items → x ≡ get_or items i x → AreReadable (item_patterns (map item_of (take i items))) →
    AreReadable (option_to_list (term_pattern (term_of x.term))) → AreReadable (item_patterns (map item_of (take (i + 1) items)))
one_more items i x lt at so_far here =
    let before : List (List ℕ) = item_patterns (map item_of (take i items)) in
    let parts : take (i + 1) items ≡ take i items ++ x ∷ [] = take_more items i x lt ∙ ap (λ y. take i items ++ y ∷ []) (sym at) in
    let all : item_patterns (map item_of (take (i + 1) items)) ≡ before ++ own (item_of x) =
    ap (λ (l : List Written). item_patterns (map item_of l)) parts
    ∙ ap item_patterns (map-append item_of (take i items) (x ∷ []))
    ∙ flat_map-append own (map item_of (take i items)) (item_of x ∷ [])
    ∙ ap (λ (ps : List (List ℕ)). before ++ ps) (append-nil (own (item_of x))) in
    subst (λ (ps : List (List ℕ)). AreReadable ps) (sym all) (All-append IsReadable before (own (item_of x)) so_far here)

-- both lists of items
pub both : (kind : Kind) (tags todo : List Written) → AreReadable (item_patterns (map item_of tags)) → AreReadable (item_patterns (map item_of todo)) → AreReadable (patterns (expr_of kind tags todo))
both Tags tags todo h g = h
both Todo tags todo h g = All-append IsReadable (item_patterns (map item_of tags)) (item_patterns (map item_of todo)) h g
both Open tags todo h g = All-append IsReadable (item_patterns (map item_of tags)) (item_patterns (map item_of todo)) h g

-- tags alone
pub only_tags : (kind : Kind) (tags todo : List Written) → kind ≡ Tags → AreReadable (item_patterns (map item_of tags)) → AreReadable (patterns (expr_of kind tags todo))
only_tags Tags tags todo is h = h
only_tags Todo tags todo is h = absurd cc
only_tags Open tags todo is h = absurd cc
