-- A property drawer that is found line by line.
use Rattle.std.proofs.Common.{◌≡◌, ◌∙◌, ℕ, ◌+◌, ◌-◌, ◌<◌, ◌≤◌, true, false, List, [], ◌∷◌, ◌++◌, length, take, drop, refl, sym, ap, arith, append_assoc, append-nil, length-append, length-drop}
use Rattle.std.specs.Prelude.{Option, Some, None}
use Rattle.std.specs.List.{concat}
use Rattle.std.specs.Option.{option_map}
use Rattle.std.proofs.lemmas.List.{drop-drop, take_all}
use Rattle.org_amend.specs.FoundDrawers.{first_of}
use Rattle.org_amend.specs.PropertyChanges.{drawer_at, nodes_from}
use Rattle.org_amend.proofs.FirstLineLemmas.{cut_first}
use Rattle.org_amend.proofs.NodeLemmas.{concat_put}
use Rattle.org_class.specs.Drawers.{is_drawer_end, is_drawer_open}
use Rattle.org_drawer.specs.Node.{is_node}
use Rattle.org_lines.specs.Cuts.{lines}

-- its first line

opened : (f : List ℕ) (more : List (List ℕ)) → is_drawer_open f ≡ true → option_map (λ d. (f ∷ []) ++ d) (nodes_from more) ≡ drawer_at (f ∷ more)
opened f more h = sym (rw h refl)

pub first_goes : (text opening : List ℕ) (ls : List (List ℕ)) → opening ≡ first_of text → is_drawer_open opening ≡ true → ls ≡ opening ∷ [] → option_map (λ d. ls ++ d) (nodes_from (lines (drop (length opening) text))) ≡ drawer_at (lines text)
first_goes [] opening ls is opens one = absurd (let wrong : false ≡ true = sym (ap is_drawer_open is) ∙ opens in cc)
first_goes (b ∷ bs) opening ls is opens one =
    let text = b ∷ bs in
    let more = lines (drop (length opening) text) in
    let cut : lines text ≡ opening ∷ more = cut_first b bs ∙ sym (ap (λ f. f ∷ lines (drop (length f) text)) is) in
    ap (λ l. option_map (λ d. l ++ d) (nodes_from more)) one ∙ (opened opening more opens ∙ sym (ap drawer_at cut))

pub first_long : (opening : List ℕ) (ls : List (List ℕ)) → ls ≡ opening ∷ [] → length opening ≡ length (concat ls)
first_long opening ls one = sym (ap (λ l. length (concat l)) one ∙ ap length (append-nil opening))

-- the first line of what stands from a place on

rest_is : (text : List ℕ) (at : ℕ) → take (length text - at) (drop at text) ≡ drop at text
rest_is text at = take_all (length text - at) (drop at text) (omega (arith, length-drop at text))

pub from_place : (text line : List ℕ) (at : ℕ) → line ≡ first_of (take (length text - at) (drop at text)) → line ≡ first_of (drop at text)
from_place text line at is = is ∙ ap first_of (rest_is text at)

pub stays_within : (text line : List ℕ) (at : ℕ) → at < length text → length line ≤ length (take (length text - at) (drop at text)) → at + length line ≤ length text
stays_within text line at within fits = omega (arith, within, fits, ap length (rest_is text at), length-drop at text)

-- one more line

pub longer : (line : List ℕ) (at : ℕ) (ls new : List (List ℕ)) → at ≡ length (concat ls) → new ≡ ls ++ line ∷ [] → at + length line ≡ length (concat new)
longer line at ls new so_far is =
    let all : concat new ≡ concat ls ++ line = ap concat is ∙ (concat_put ls (line ∷ []) ∙ ap (λ l. concat ls ++ l) (append-nil line)) in
    sym (ap length all ∙ (length-append (concat ls) line ∙ ap (λ n. n + length line) (sym so_far)))

cut_text : (t : List ℕ) → 0 < length t → lines t ≡ first_of t ∷ lines (drop (length (first_of t)) t)
cut_text [] some = absurd (omega arith)
cut_text (b ∷ bs) some = cut_first b bs

cut_there : (text line : List ℕ) (at : ℕ) → at < length text → line ≡ first_of (drop at text) → lines (drop at text) ≡ line ∷ lines (drop (at + length line) text)
cut_there text line at within is =
    let rest = drop at text in
    let some : 0 < length rest = omega (arith, length-drop at text) in
    cut_text rest some ∙ (sym (ap (λ f. f ∷ lines (drop (length f) rest)) is) ∙ ap (λ r. line ∷ lines r) (drop-drop (length line) at text))

onto : (line : List ℕ) (ls new : List (List ℕ)) (o : Option (List (List ℕ))) → new ≡ ls ++ line ∷ [] → option_map (λ d. new ++ d) o ≡ option_map (λ d. ls ++ d) (option_map (λ d. line ∷ d) o)
onto line ls new None is = refl
onto line ls new (Some d) is = ap Some (ap (λ n. n ++ d) is ∙ append_assoc ls (line ∷ []) d)

module _ (text line : List ℕ) (at : ℕ) (ls new : List (List ℕ)) (found : Option (List (List ℕ))) (within : at < length text) (line_is : line ≡ first_of (drop at text)) (new_is : new ≡ ls ++ line ∷ []) (goes : option_map (λ d. ls ++ d) (nodes_from (lines (drop at text))) ≡ found) where
  abbrev more : List (List ℕ)
  more = lines (drop (at + length line) text)

  cut : option_map (λ d. ls ++ d) (nodes_from (line ∷ more)) ≡ found
  cut = sym (ap (λ m. option_map (λ d. ls ++ d) (nodes_from m)) (cut_there text line at within line_is)) ∙ goes

  pub node_goes : is_drawer_end line ≡ false → is_node line ≡ true → option_map (λ d. new ++ d) (nodes_from (lines (drop (at + length line) text))) ≡ found
  node_goes goes_on node = onto line ls new (nodes_from more) new_is ∙ (rw (goes_on, node) at cut)

  pub end_found : is_drawer_end line ≡ true → found ≡ Some new
  end_found ends = sym (rw ends at cut) ∙ ap Some (sym new_is)

  pub none_found : is_drawer_end line ≡ false → is_node line ≡ false → found ≡ None
  none_found goes_on other = sym (rw (goes_on, other) at cut)
