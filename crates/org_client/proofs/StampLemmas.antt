-- A stamp is among others exactly where a row is of it.
use Rattle.std.proofs.Common.{◌≡◌, ◌∙◌, ℕ, Bool, true, false, cond, ◌&&◌, ◌||◌, List, [], ◌∷◌, ◌++◌, refl, sym, arith}
use Rattle.std.specs.Prelude.{◌==◌}
use Rattle.std.specs.BTreeMap.{is_at}
use Rattle.std.specs.BTreeSet.{BTreeSet, contains}
use Rattle.std.specs.List.{list_any}
use Rattle.std.proofs.lemmas.Bool.Decides.{nat_tests}
use Rattle.org_client.specs.Next.{AreStampsOf, is_at_stamp, is_of, stamp_cmp, with_new}
use Rattle.org_client.specs.declared.next.Upcoming.{Upcoming}

-- one more after others
any_more : {X : Type 0} (p : X → Bool) (xs : List X) (x : X) → list_any p (xs ++ x ∷ []) ≡ (list_any p xs || p x)
any_more p [] x = elim (p x) as (λ b. (b || false) ≡ b) [ true ↦ refl | false ↦ refl ]
any_more p (y ∷ ys) x = elim (p y) as (λ b. (b || list_any p (ys ++ x ∷ [])) ≡ ((b || list_any p ys) || p x)) [ true ↦ refl | false ↦ any_more p ys x ]

-- stamps are the same where their places are
pub same_stamp : (a b c x y z : ℕ) → is_at (stamp_cmp (a, b, c)) (x, y, z) ≡ ((x == a) && (y == b) && (z == c))
same_stamp a b c x y z = grind (arith, nat_tests)

put_or : (hit had : Bool) → cond hit true had ≡ (had || hit)
put_or true true = refl
put_or true false = refl
put_or false true = refl
put_or false false = refl

-- with the stamp of one more row
pub known_more : (old new : BTreeSet (ℕ × ℕ × ℕ)) (next : List Upcoming) (u : Upcoming) → AreStampsOf old next
    → ((q : ℕ × ℕ × ℕ) → contains stamp_cmp new q ≡ cond (is_at (stamp_cmp (u.row.file, u.row.heading, u.row.stamp_at)) q) true (contains stamp_cmp old q)) → AreStampsOf new (next ++ u ∷ [])
known_more old new next u known updates x y z =
    updates (x, y, z)
    ∙ put_or (is_at (stamp_cmp (u.row.file, u.row.heading, u.row.stamp_at)) (x, y, z)) (contains stamp_cmp old (x, y, z))
    ∙ (λ i. known x y z i || same_stamp u.row.file u.row.heading u.row.stamp_at x y z i)
    ∙ sym (any_more (is_at_stamp x y z) next u)

-- it is new where its stamp wasn't among them
pub new_there : (stamps : BTreeSet (ℕ × ℕ × ℕ)) (next : List Upcoming) (u : Upcoming) → AreStampsOf stamps next → contains stamp_cmp stamps (u.row.file, u.row.heading, u.row.stamp_at) ≡ true → next ≡ with_new next u.day u.row
new_there stamps next u known is =
    let any : list_any (is_of u.row) next ≡ true = sym (known u.row.file u.row.heading u.row.stamp_at) ∙ is in
    rw any refl

pub new_added : (stamps : BTreeSet (ℕ × ℕ × ℕ)) (next : List Upcoming) (u : Upcoming) → AreStampsOf stamps next → contains stamp_cmp stamps (u.row.file, u.row.heading, u.row.stamp_at) ≡ false → next ++ u ∷ [] ≡ with_new next u.day u.row
new_added stamps next u known is =
    let any : list_any (is_of u.row) next ≡ false = sym (known u.row.file u.row.heading u.row.stamp_at) ∙ is in
    rw any refl
