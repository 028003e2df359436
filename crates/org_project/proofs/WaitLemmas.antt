-- What an entry takes from its parent.
use Rattle.std.proofs.Common.{◌≡◌, ◌∙◌, ℕ, ◌+◌, ◌<◌, ◌≤◌, Bool, false, ◌&&◌, ◌||◌, List, Option, None, Some, length, map, refl, sym, ap, arith}
use Rattle.std.specs.List.{list_any, range_with_len}
use Rattle.std.specs.Prelude.{nat_lt}
use Rattle.org_entry.specs.declared.entry.Entry.{Entry}
use Rattle.std.proofs.lemmas.Option.{slice_get-get_or}
use Rattle.org_outline.proofs.ByPlace.{table_at, table_length}
use Rattle.org_outline.proofs.Chain.{ancestors_step, parent_earlier}
use Rattle.org_outline.specs.Levels.{levels}
use Rattle.org_outline.specs.Places.{behind}
use Rattle.org_outline.specs.Tree.{ancestors, parent, up_from}
use Rattle.org_sum.specs.Sums.{own_at, sum_below}
use Rattle.org_project.specs.Below.{counted_before, one}
use Rattle.org_project.specs.Blocked.{count_at, count_in, is_open_between, waits, waits_by, waits_in, waits_under}
use Rattle.org_project.specs.Laws.{UnderGoesDown, WaitingGoesDown}
use Rattle.org_project.specs.Topmost.{either_at, flag_at, flag_in, is_under, of_parent}
use Rattle.org_project.specs.declared.blocked.Tasks.{Tasks}

waits_up : (es : List Entry) (undone ordered : List Bool) (i : ℕ) (found : Option ℕ) →
    waits_under es undone ordered i (up_from (levels es) found)
    ≡ of_parent found (λ p. (flag_at ordered p && is_open_between es undone (p + 1) i) || (flag_at undone p && waits es undone ordered p))
waits_up es undone ordered i None = refl
waits_up es undone ordered i (Some p) = refl

pub waiting_goes_down : WaitingGoesDown
waiting_goes_down es undone ordered i = ap (waits_under es undone ordered i) (ancestors_step (levels es) i) ∙ waits_up es undone ordered i (parent (levels es) i)

under_up : (es : List Entry) (kind : List Bool) (found : Option ℕ) →
    list_any (flag_at kind) (up_from (levels es) found) ≡ of_parent found (λ p. flag_at kind p || is_under es kind p)
under_up es kind None = refl
under_up es kind (Some p) = refl

pub under_goes_down : UnderGoesDown
under_goes_down es kind i = ap (list_any (flag_at kind)) (ancestors_step (levels es) i) ∙ under_up es kind (parent (levels es) i)

-- what tables say at their places
pub flag_table : (f : ℕ → Bool) (xs : List Bool) (n i : ℕ) → xs ≡ map f (range_with_len 0 n) → i < n → flag_at xs i ≡ f i
flag_table f xs n i e h = ap flag_in (slice_get-get_or xs i false (omega (arith, h, table_length f xs n e))) ∙ table_at f xs n i false e h

pub count_table : (f : ℕ → ℕ) (xs : List ℕ) (n i : ℕ) → xs ≡ map f (range_with_len 0 n) → i < n → count_at xs i ≡ f i
count_table f xs n i e h = ap count_in (slice_get-get_or xs i 0 (omega (arith, h, table_length f xs n e))) ∙ table_at f xs n i 0 e h

-- an entry waits for the sake of a parent
abbrev step : List Entry → Tasks → ℕ → ℕ → Bool
step es tasks i p = (flag_at tasks.ordered.now p && is_open_between es tasks.undone.now (p + 1) i) || (flag_at tasks.undone.now p && waits es tasks.undone.now tasks.ordered.now p)

-- what a table knows of the entries before one tells it of the one
pub under_known : (es : List Entry) (kind table : List Bool) (i : ℕ) (found : Option ℕ) → found ≡ parent (levels es) i →
    table ≡ map (is_under es kind) (range_with_len 0 i) →
    of_parent found (either_at kind table) ≡ is_under es kind i
under_known es kind table i None e t = sym (under_goes_down es kind i ∙ ap (λ f. of_parent f (λ p. flag_at kind p || is_under es kind p)) (sym e))
under_known es kind table i (Some p) e t =
    let l = parent_earlier (levels es) i p (sym e) in
    ap (λ b. flag_at kind p || b) (flag_table (is_under es kind) table i p t l)
    ∙ sym (under_goes_down es kind i ∙ ap (λ f. of_parent f (λ p. flag_at kind p || is_under es kind p)) (sym e))

pub waits_known : (es : List Entry) (tasks : Tasks) (table : List Bool) (counts : List ℕ) (i : ℕ) (found : Option ℕ) → i < length es → found ≡ parent (levels es) i →
    counts ≡ counted_before es tasks.undone.now → table ≡ map (waits_in es tasks) (range_with_len 0 i) →
    of_parent found (waits_by tasks counts table i) ≡ waits_in es tasks i
waits_known es tasks table counts i None h e n t =
    sym (waiting_goes_down es tasks.undone.now tasks.ordered.now i ∙ ap (λ f. of_parent f (step es tasks i)) (sym e))
waits_known es tasks table counts i (Some p) h e n t =
    let l = parent_earlier (levels es) i p (sym e) in
    let a = count_table (sum_below (own_at one es tasks.undone.now)) counts (length es + 1) (p + 1) n (omega (arith, l, h)) in
    let b = count_table (sum_below (own_at one es tasks.undone.now)) counts (length es + 1) i n (omega (arith, h)) in
    let w = flag_table (waits_in es tasks) table i p t l in
    ap (λ x. (flag_at tasks.ordered.now p && nat_lt x (count_at counts i)) || (flag_at tasks.undone.now p && flag_at table p)) a
    ∙ (ap (λ x. (flag_at tasks.ordered.now p && nat_lt (sum_below (own_at one es tasks.undone.now) (p + 1)) x) || (flag_at tasks.undone.now p && flag_at table p)) b
    ∙ (ap (λ x. (flag_at tasks.ordered.now p && is_open_between es tasks.undone.now (p + 1) i) || (flag_at tasks.undone.now p && x)) w
    ∙ sym (waiting_goes_down es tasks.undone.now tasks.ordered.now i ∙ ap (λ f. of_parent f (step es tasks i)) (sym e))))

-- a parent stands before
pub parents_earlier : (es : List Entry) (i : ℕ) (found : Option ℕ) → found ≡ parent (levels es) i → behind found ≤ i
parents_earlier es i None e = omega arith
parents_earlier es i (Some p) e = omega (arith, parent_earlier (levels es) i p (sym e))
