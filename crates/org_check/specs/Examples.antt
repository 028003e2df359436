-- Worked examples: what the definitions say of inputs at which a wrong rule says something else.
use Rattle.std.specs.Prelude.{◌≡◌, ℕ, true, false, List, [], ◌∷◌, ◌++◌, None, Some, codes, replicate}
use Rattle.org_class.specs.declared.class.Class.TheVariants.{Clock, Comment, Plain}
use Rattle.org_check.specs.Chosen.{Chosen, counts, counts_any, is_wanted, wanted_of}
use Rattle.org_check.specs.Clocks.{counts_nothing}
use Rattle.org_check.specs.Marks.{counts_nothing_in, is_stray_drawer, is_stray_planning, is_unclosed_block, is_unread_clock, line_marks, mark_at}
use Rattle.org_check.specs.Printed.{finding_text}
use Rattle.org_check.specs.Sentences.{quote_of, sentence_of}
use Rattle.org_check.specs.UnreadStamps.{unread_in}
use Rattle.org_check.specs.declared.beside_kinds.BesideKind.TheVariants.{PlanningCase}
use Rattle.org_check.specs.declared.finding.Cause.TheVariants as cause
use Rattle.org_check.specs.declared.finding.Finding.{Finding}
use Rattle.org_check.specs.declared.kind.Kind.{Kind}
use Rattle.org_check.specs.declared.kind.Kind.TheVariants as kind
use Rattle.org_check.specs.declared.show.Form.TheVariants.{Json, Lines}
use Rattle.org_check.specs.declared.table.Severity.TheVariants.{Error, Note}
use Rattle.org_check.specs.declared.unread_kinds.StampKind.TheVariants.{NoSuchDate, QuotedStamp}
use Rattle.org_check.specs.declared.look.Look.TheVariants as look

-- a day that there isn't, a day of one digit, and a stamp; a planning word and no stamp; words in small letters. A clock
-- that runs, one that ends when it begins, and one that counts. A planning line that is none and whose stamp is none, and a comment line (Org manual 9.6; Org Syntax; profile)
pub record ExamplesHold : Type 0 where
  pub no_such_day : unread_in (codes "<2024-02-30>") ≡ 0 ∷ []
  pub one_digit : unread_in (codes "a [2024-2-9]") ≡ 2 ∷ []
  pub a_stamp : unread_in (codes "<2024-02-09>") ≡ []
  pub planning : is_stray_planning Plain (codes " CLOSED: a") ≡ true
  pub small_planning : is_stray_planning Plain (codes "closed: a") ≡ false
  pub small_drawer : is_stray_drawer Plain (codes " :properties: \n") ≡ true
  pub block : is_unclosed_block Plain (codes "#+begin_src c") ≡ true
  pub no_name : is_unclosed_block Plain (codes "#+begin_") ≡ false
  pub active_clock : is_unread_clock Plain (codes "CLOCK: <2024-02-09>") ≡ true
  pub runs : counts_nothing_in Clock (codes "CLOCK: [2024-02-09 10:00]") ≡ true
  pub empty : counts_nothing (record { from = 600; to = Some 600 }) ≡ true
  pub one_minute : counts_nothing (record { from = 600; to = Some 601 }) ≡ false
  pub two_marks : line_marks Plain 5 (codes "DEADLINE: <2024-02-30>") ≡ mark_at look.Planning 5 0 ∷ mark_at look.Stamp 5 10 ∷ []
  pub comment : line_marks Comment 5 (codes "# <2024-02-30>") ≡ []

-- nothing was said of kinds
abbrev usual_ones : Chosen
usual_ones = record { named = []; left_out = []; all = false; least = Note }

abbrev no_such_date_kind : Kind
no_such_date_kind = kind.Stamp NoSuchDate

abbrev quoted_kind : Kind
quoted_kind = kind.Stamp QuotedStamp

-- a text whose second line has no stamp from its fourth byte on, and what is found there
abbrev text_found : List ℕ
text_found = codes "* A\n  a<2024-02-30>\n"

abbrev found : Finding
found = record { shown = record { line_at = 4; place = 3; len = 12; line = 2 }; line_at = 4; place = 3; kind = no_such_date_kind; cause = None }

abbrev found_case : Finding
found_case = record { shown = record { line_at = 4; place = 0; len = 9; line = 2 }; line_at = 4; place = 0; kind = kind.Beside PlanningCase; cause = Some (cause.Planning 3) }

-- a kind of the usual ones, and one that is looked for where it is named; one that is named and left out; one that is wanted and
-- counts for too little; the order stays. Where planning is to be moved; a long text whose eightieth byte begins a character. A line and an object of a finding
pub record PrintedExamplesHold : Type 0 where
  pub usual : is_wanted usual_ones no_such_date_kind ≡ true
  pub rare : is_wanted usual_ones quoted_kind ≡ false
  pub asked_for : is_wanted (record usual_ones { named = quoted_kind ∷ [] }) quoted_kind ≡ true
  pub left_out : is_wanted (record usual_ones { named = quoted_kind ∷ []; left_out = quoted_kind ∷ [] }) quoted_kind ≡ false
  pub below_least : counts (record usual_ones { all = true; least = Error }) quoted_kind ≡ false
  pub in_order : wanted_of usual_ones (found ∷ found_case ∷ []) ≡ found ∷ found_case ∷ []
  pub one_counts : counts_any (record usual_ones { left_out = no_such_date_kind ∷ [] }) (found ∷ found_case ∷ []) ≡ true
  pub moved : sentence_of found_case [] ≡ codes "no planning, and its stamp shows on its day alone; write the word in capitals; write it at the end of the line under its heading; line 3 is the planning line"
  pub cut_quote : quote_of (replicate 79 97 ++ 195 ∷ 164 ∷ 97 ∷ []) ≡ replicate 79 97 ++ codes "..."
  pub printed : finding_text Lines (codes "a.org") text_found found ≡ codes "a.org:2:4: error: <2024-02-30>: no timestamp, since there is no such day [no-such-date]"
  pub as_object : finding_text Json (codes "a.org") text_found found
      ≡ codes "{\"kind\":\"no-such-date\",\"severity\":\"error\",\"file\":\"a.org\",\"line\":2,\"column\":4,\"byte\":7,\"length\":12,\"text\":\"<2024-02-30>: no timestamp, since there is no such day\"}"
