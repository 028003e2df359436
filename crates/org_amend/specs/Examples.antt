-- Worked examples: what the definitions say of ordinary inputs, and of those at which a wrong rule says something else.
use Rattle.std.specs.Prelude.{◌≡◌, ℕ, true, false, List, [], ◌∷◌, codes, Some, None}
use Rattle.org_amend.specs.Begun.{indent_of, line_break}
use Rattle.org_amend.specs.Cancelled.{closing_len, emptied_part, guarded_part}
use Rattle.org_amend.specs.Entries.{has_drawer, whole_of}
use Rattle.org_amend.specs.HeadChanges.{with_cookie, with_space, without_cookie, without_keyword}
use Rattle.org_amend.specs.Places.{drawer_from, front_end}
use Rattle.org_amend.specs.Planning.{dated_draft, is_said, undated_line}
use Rattle.org_amend.specs.PropertyChanges.{all_give, changed_nodes, drawer_at, says_once}
use Rattle.org_amend.specs.TagsColumn.{capped, or_one}
use Rattle.org_amend.specs.Tails.{line_tail}
use Rattle.org_amend.specs.Typed.{typed_date}
use Rattle.org_amend.specs.WantedTags.{wanted_tags}
use Rattle.org_amend.specs.declared.place.DrawerName.TheVariants.{Logbook}
use Rattle.org_base.specs.declared.span.Span.{Span}
use Rattle.org_cal.specs.Days.{day_number}
use Rattle.org_class.specs.Classes.{section_classes}
use Rattle.org_class.specs.declared.class.Class.TheVariants.{Heading, Plain, Planning, Verbatim}
use Rattle.org_stamp.specs.declared.pair.PlanningKeyword.TheVariants.{Deadline, Scheduled}

-- what goes of a section where a part of it goes
abbrev pub goes_of : List ℕ → ℕ → ℕ → Span
goes_of section at len = guarded_part section (whole_of section) (section_classes section) (record { at = at; len = len })

-- the front ends before the first other line; a drawer of small letters is one, a line of a block and a drawer that doesn't
-- end are none. Tabs count as indentation; lines end as the first of the section does, and where that isn't ended by a line
-- feed. The drawer goes with a clock that stands first in it and last; one of which more follows stays, and so does one that
-- a line stands in before the clock
pub record ExamplesHold : Type 0 where
  pub front : front_end (Heading ∷ Planning ∷ Plain ∷ []) 0 10 (codes "* a\n" ∷ codes "CLOSED: b\n" ∷ codes "c\n" ∷ []) ≡ 24
  pub all_front : front_end (Heading ∷ []) 0 10 (codes "* a\n" ∷ []) ≡ 14
  pub drawer : drawer_from Logbook None (Heading ∷ Plain ∷ Plain ∷ Plain ∷ []) 0 0 (codes "* a\n" ∷ codes ":logbook:\n" ∷ codes "b\n" ∷ codes ":END:\n" ∷ []) ≡ Some (record { at = 4; len = 10 })
  pub unended : drawer_from Logbook None (Heading ∷ Plain ∷ Plain ∷ []) 0 0 (codes "* a\n" ∷ codes ":LOGBOOK:\n" ∷ codes "b\n" ∷ []) ≡ None
  pub in_block : drawer_from Logbook None (Heading ∷ Verbatim ∷ Plain ∷ []) 0 0 (codes "* a\n" ∷ codes ":LOGBOOK:\n" ∷ codes ":END:\n" ∷ []) ≡ None
  pub indented : indent_of (codes " \t:LOGBOOK:\n") ≡ codes " \t"
  pub line_feed : line_break (codes "* a\nb\r\n") ≡ codes "\n"
  pub carriage_return : line_break (codes "* a\r\nb\n") ≡ codes "\r\n"
  pub unended_heading : line_break (codes "* a") ≡ codes "\n"
  pub emptied : (from : ℕ) → emptied_part (Some (record { at = 4; len = 10 })) (record { at = 14; len = 30; end = 43; from = from }) (closing_len (codes " :end:\n" ∷ [])) ≡ record { at = 4; len = 47 }
  pub more_follows : (from : ℕ) → emptied_part (Some (record { at = 4; len = 10 })) (record { at = 14; len = 30; end = 43; from = from }) (closing_len (codes "b\n" ∷ codes ":END:\n" ∷ [])) ≡ record { at = 14; len = 30 }
  pub behind_more : (from : ℕ) → emptied_part (Some (record { at = 4; len = 10 })) (record { at = 16; len = 30; end = 45; from = from }) (closing_len (codes ":END:\n" ∷ [])) ≡ record { at = 16; len = 30 }

-- a clock's line goes whole, but an empty line stays that ends as it does, where planning or properties behind it would be
-- read as the heading's, or where the clock is all that keeps lines from being its properties. A drawer in a body is one where
-- it ends; a name has no colon
pub record CancelExamplesHold : Type 0 where
  pub goes_whole : goes_of (codes "* a\nCLOCK: [2024-02-28 Wed 09:00]\nb\n") 4 30 ≡ record { at = 4; len = 30 }
  pub planning_behind : goes_of (codes "* a\nCLOCK: [2024-02-28 Wed 09:00]\nDEADLINE: <2024-02-29 Thu>\n") 4 30 ≡ record { at = 4; len = 29 }
  pub planning_before : goes_of (codes "* a\nDEADLINE: <2024-02-29 Thu>\nCLOCK: [2024-02-28 Wed 09:00]\nDEADLINE: <2024-02-28 Wed>\n") 31 30 ≡ record { at = 31; len = 30 }
  pub properties_behind : goes_of (codes "* a\r\nCLOCK: [2024-02-28 Wed 09:00]\r\n:PROPERTIES:\r\n:b: c\r\n:END:\r\n") 5 31 ≡ record { at = 5; len = 29 }
  pub properties_around : goes_of (codes "* a\n:PROPERTIES:\nCLOCK: [2024-02-28 Wed 09:00]\n:END:\n") 17 30 ≡ record { at = 17; len = 29 }
  pub drawer_of_body : has_drawer (codes "* a\n:Note:\nb\n :end:\n") (Heading ∷ Plain ∷ Plain ∷ Plain ∷ []) ≡ true
  pub unended_of_body : has_drawer (codes "* a\n:Note:\nb\n") (Heading ∷ Plain ∷ Plain ∷ []) ≡ false
  pub colon_in_name : has_drawer (codes "* a\n:b:c:\n:END:\n") (Heading ∷ Plain ∷ Plain ∷ []) ≡ false

-- a stamp takes the place of the last one of its keyword, a range whole, or comes before all others, or on a line of its own;
-- not where others would be read then. Stamps go with the white space before them, and what is left of the line stays, or
-- goes, or stays empty; not where it would be read as a heading, or hide a drawer. A date has a time or a span of one
pub record PlanningExamplesHold : Type 0 where
  pub new_line : dated_draft Scheduled (codes "<new>") (codes "text\n") (codes "\n") ≡ codes "SCHEDULED: <new>\n"
  pub in_place : dated_draft Scheduled (codes "<new>") (codes " SCHEDULED: <2024-02-01 Thu +1w> x\n") (codes "\n") ≡ codes " SCHEDULED: <new> x\n"
  pub whole_range : dated_draft Scheduled (codes "<new>") (codes "SCHEDULED: <2024-02-01 Thu>--<2024-02-03 Sat>\n") (codes "\n") ≡ codes "SCHEDULED: <new>\n"
  pub last_of_two : dated_draft Deadline (codes "<new>") (codes "DEADLINE: <2024-01-01 Mon> DEADLINE: <2024-02-01 Thu>\n") (codes "\n") ≡ codes "DEADLINE: <2024-01-01 Mon> DEADLINE: <new>\n"
  pub in_front : dated_draft Scheduled (codes "<new>") (codes "  CLOSED: [2024-02-02 Fri]\n") (codes "\n") ≡ codes "  SCHEDULED: <new> CLOSED: [2024-02-02 Fri]\n"
  pub brings_other : is_said Scheduled (codes "<2024-03-01 Fri>") (codes "SCHEDULED: [2024-02-01 Thu]--<2024-02-03 Sat> DEADLINE: <2024-02-02 Fri>\n") (codes "\n")
      (codes "SCHEDULED: <2024-03-01 Fri>--<2024-02-03 Sat> DEADLINE: <2024-02-02 Fri>\n") ≡ false
  pub line_goes : undated_line Scheduled (codes "SCHEDULED: <2024-02-01 Thu>\n") (codes "b\n") ≡ Some []
  pub all_go : undated_line Scheduled (codes "SCHEDULED: <2024-01-01 Mon> SCHEDULED: <2024-02-01 Thu>") [] ≡ Some []
  pub others_stay : undated_line Scheduled (codes "  SCHEDULED: <2024-02-01 Thu> DEADLINE: <2024-02-02 Fri>\n") [] ≡ Some (codes "  DEADLINE: <2024-02-02 Fri>\n")
  pub text_stays : undated_line Scheduled (codes "DEADLINE: <2024-02-02 Fri> SCHEDULED: <2024-02-01 Thu>  x\n") [] ≡ Some (codes "DEADLINE: <2024-02-02 Fri>  x\n")
  pub empty_stays : undated_line Scheduled (codes "\tSCHEDULED: <2024-02-01 Thu>\t\r\n") (codes "DEADLINE: <2024-02-02 Fri>\r\n") ≡ Some (codes "\r\n")
  pub word_stays : undated_line Scheduled (codes "SCHEDULED: <2024-02-01 Thu> and a word\n") (codes "b\n") ≡ Some (codes "and a word\n")
  pub no_heading : undated_line Scheduled (codes "SCHEDULED: <2024-02-01 Thu> * A\n") [] ≡ None
  pub no_lost_drawer : undated_line Scheduled (codes "SCHEDULED: <2024-02-01 Thu> and a word\n") (codes ":PROPERTIES:\n") ≡ None
  pub spanned : (today : ℕ) → typed_date (codes "2024-03-01 9:30-10:15") today ≡ Some (record { day = day_number 2024 3 1; time = Some 570; end_time = Some 615; repeater = None; delay = None })
  pub timed : (today : ℕ) → typed_date (codes "today 09:30") today ≡ Some (record { day = today; time = Some 570; end_time = None; repeater = None; delay = None })
  pub no_time : (today : ℕ) → typed_date (codes "today 24:00") today ≡ None

-- a tag that stands there stays at its place, one that goes and comes is the last, and each equal one goes. A cookie takes the place of
-- the old one, or stands behind the keyword, or before the first word; with one goes a space, and with a keyword what is blank. Stars
-- alone keep a space. A property's line takes the place of the first one, further ones go, also those that append; without one it comes
-- last. A line that ends a drawer is none of it, and a drawer that doesn't end is none
pub record PartExamplesHold : Type 0 where
  pub tag_stays : wanted_tags [] (codes "a" ∷ codes "c" ∷ []) (codes "a" ∷ codes "b" ∷ []) ≡ codes "a" ∷ codes "b" ∷ codes "c" ∷ []
  pub tag_goes_and_comes : wanted_tags (codes "a" ∷ []) (codes "a" ∷ []) (codes "a" ∷ codes "b" ∷ codes "a" ∷ []) ≡ codes "b" ∷ codes "a" ∷ []
  pub cookie_in_place : with_cookie (codes "* TODO [#A] x\n") (Some (record { at = 7; len = 4 })) (Some (record { at = 2; len = 4 })) (codes "12") ≡ codes "* TODO [#12] x\n"
  pub cookie_behind_keyword : with_cookie (codes "* TODO x\n") None (Some (record { at = 2; len = 4 })) (codes "B") ≡ codes "* TODO [#B] x\n"
  pub cookie_before_words : with_cookie (codes "**  x\n") None None (codes "B") ≡ codes "**  [#B] x\n"
  pub cookie_goes : without_cookie (codes "* [#A]  x\n") (Some (record { at = 2; len = 4 })) ≡ codes "*  x\n"
  pub keyword_goes : without_keyword (codes "*  TODO \tx\n") (Some (record { at = 3; len = 4 })) ≡ codes "* x\n"
  pub stars_alone : with_space (codes "**") ≡ codes "** "
  pub at_least_one : or_one 0 ≡ 1
  pub no_further : capped 80 ≡ 77
  pub tail_returns : line_tail (codes "a\r\n") ≡ codes "\r\n"
  pub in_place : changed_nodes (codes "A") (codes ":A: 3\n") (codes ":PROPERTIES:\n" ∷ codes ":a: 1\n" ∷ codes ":B: 1\n" ∷ codes ":A+: 2\n" ∷ codes ":END:\n" ∷ []) ≡ codes ":PROPERTIES:\n:A: 3\n:B: 1\n:END:\n"
  pub comes_last : changed_nodes (codes "A") (codes ":A: 3\n") (codes ":PROPERTIES:\n" ∷ codes ":B: 1\n" ∷ codes ":end:\n" ∷ []) ≡ codes ":PROPERTIES:\n:B: 1\n:A: 3\n:end:\n"
  pub twice : says_once (codes "a") (codes "1") false (codes ":A: 1\n" ∷ codes ":a: 1\n" ∷ codes ":END:\n" ∷ []) ≡ false
  pub appended : says_once (codes "a") (codes "1") false (codes ":A+: 1\n" ∷ codes ":END:\n" ∷ []) ≡ false
  pub of_end : says_once (codes "end") [] false (codes ":END:\n" ∷ []) ≡ false
  pub another : all_give (codes "a") (codes ":A: 1\n" ∷ codes ":B: 1\n" ∷ codes ":END:\n" ∷ []) ≡ false
  pub unended : drawer_at (codes ":PROPERTIES:\n" ∷ codes ":A: 1\n" ∷ codes "b\n" ∷ codes ":END:\n" ∷ []) ≡ None
