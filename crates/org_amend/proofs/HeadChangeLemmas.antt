-- A heading line with a change, as it is read.
use Rattle.std.proofs.Common.{◌≡◌, ◌∙◌, ℕ, ◌≤◌, Bool, true, false, ◌==◌, ◌&&◌, inl, inr, List, length, refl, sym, ap, subst, arith}
use Rattle.std.specs.Prelude.{Option, Some, None, Result, Ok, Err, if◌then◌else◌, nat_lt, bytes_eq}
use Rattle.std.proofs.lemmas.Bool.{and_parts, cases_Bool, eqb-true, ltb-true}
use Rattle.std.proofs.lemmas.Slice.Eq.{bytes_eq-Decides}
use Rattle.org_amend.specs.HeadChangeLaws.{HeadsAreChanged, IsChanged, SaysChanged}
use Rattle.org_amend.specs.HeadChanges.{aligned_draft, blamed_of, changed_head, finished, head_draft, is_changed, or_blamed, read_changed, same_answer, says_changed, says_words, wanted_keyword, wanted_priority}
use Rattle.org_amend.specs.Heads.{same_cookie, same_part, same_parts}
use Rattle.org_amend.specs.Planning.{ends_like, text_if}
use Rattle.org_amend.specs.WantedTags.{parts_in, tags_by}
use Rattle.org_amend.specs.declared.head.Unreadable.{Unreadable}
use Rattle.org_amend.specs.declared.head_change.HeadChange.{HeadChange}
use Rattle.org_amend.proofs.EntryLemmas.{cookie_is, part_is, parts_are}
use Rattle.org_amend.proofs.SaidLemmas.{taken}
use Rattle.org_base.specs.Spans.{bytes_in}
use Rattle.org_class.specs.Heading.{begins_heading}
use Rattle.org_head.specs.Head.{head_of}
use Rattle.org_head.specs.declared.head.Head.{Head}
use Rattle.org_settings.specs.Settings.{FileSettings}
use Rattle.org_text.specs.Replace.{max_bytes}

-- what tests say

answers_are : (a b : Bool) → same_answer a b ≡ true → a ≡ b
answers_are true true h = refl
answers_are true false h = absurd cc
answers_are false true h = absurd cc
answers_are false false h = refl

says : (change : HeadChange) (line : List ℕ) (was : Head) (new : List ℕ) (now : Head) → says_changed change line was new now ≡ true → SaysChanged change line was new now
says change line was new now h =
    let keyword = same_part new now.keyword (wanted_keyword change line was.keyword) in
    let priority = same_cookie new now.priority (wanted_priority change line was.priority) in
    let title = bytes_eq (bytes_in new now.title) (bytes_in line was.title) in
    let comment = same_answer now.comment was.comment in
    let level = now.level == was.level in
    let all = and_parts (says_words change line was new now) (same_parts new now.tags (tags_by change (parts_in line was.tags))) h in
    let four = and_parts (level && comment && title && keyword) priority all.0 in
    let three = and_parts (level && comment && title) keyword four.0 in
    let two = and_parts (level && comment) title three.0 in
    let one = and_parts level comment two.0 in
    record {
      level = eqb-true now.level was.level one.0;
      comment = answers_are now.comment was.comment one.1;
      title = (bytes_eq-Decides (bytes_in new now.title) (bytes_in line was.title)).0 two.1;
      keyword = part_is new now.keyword (wanted_keyword change line was.keyword) three.1;
      priority = cookie_is new now.priority (wanted_priority change line was.priority) four.1;
      tags = parts_are new now.tags (tags_by change (parts_in line was.tags)) all.1;
    }

changed : (settings : FileSettings) (change : HeadChange) (line new : List ℕ) → is_changed settings change line new ≡ true → IsChanged settings change line new
unfolding is_changed
changed settings change line new h =
    let all = and_parts (begins_heading new && ends_like line new) (says_changed change line (head_of settings line) new (head_of settings new)) h in
    let both = and_parts (begins_heading new) (ends_like line new) all.0 in
    record { begins = both.0; ends = both.1; says = says change line (head_of settings line) new (head_of settings new) all.1 }

-- what comes of a draft

from_or : (change : HeadChange) (o : Option (List ℕ)) (line : List ℕ) → or_blamed change o ≡ Ok line → o ≡ Some line
from_or change None line e = absurd cc
from_or change (Some l) line e = (let same : l ≡ line = cc in ap Some same)

read_so : (settings : FileSettings) (change : HeadChange) (line draft new : List ℕ) → read_changed settings change line draft ≡ Ok new → IsChanged settings change line new
read_so settings change line draft new e =
    let t = taken (is_changed settings change line draft) draft new (from_or change (text_if (is_changed settings change line draft) draft) new e) in
    subst (λ (n : List ℕ). IsChanged settings change line n) (sym t.is) (changed settings change line draft t.wanted)

if_short : {A : Type 0} (long : Bool) (why : Unreadable) (short : Result A Unreadable) (given : A) → (if long then Err why else short) ≡ Ok given → short ≡ Ok given
if_short true why short given e = absurd cc
if_short false why short given e = e

-- a line that is no longer than a text may be
pub short_enough : (settings : FileSettings) (change : HeadChange) (line draft : List ℕ) → length line ≤ max_bytes → draft ≡ head_draft settings change line → finished settings change line draft ≡ changed_head settings change line
unfolding changed_head
short_enough settings change line draft short is = elim (cases_Bool (nat_lt max_bytes (length line))) [
  | inl long ↦ absurd (omega (arith, short, ltb-true max_bytes (length line) long))
  | inr not_long ↦ ap (finished settings change line) is ∙ sym (rw not_long refl)
]

pub heads_are_changed : HeadsAreChanged
unfolding changed_head
heads_are_changed settings change line new e =
    let draft = head_draft settings change line in
    let done = if_short (nat_lt max_bytes (length line)) (blamed_of change) (finished settings change line draft) new e in
    let own = if_short (nat_lt max_bytes (length draft)) (blamed_of change) (read_changed settings change line (aligned_draft settings change line draft)) new done in
    read_so settings change line (aligned_draft settings change line draft) new own
