-- What is said of each kind of findings: its name, how severe it is, whether it is looked for where nothing is said of kinds,
-- whether its sentence begins with the text that it is about, and the sentence (profile; the manual lists them).
use Rattle.std.specs.Prelude.{ℕ, Bool, true, false, List, bytes_eq, codes}
use Rattle.std.specs.List.{list_any}
use Rattle.org_check.specs.declared.beside_kinds.BesideKind.{BesideKind}
use Rattle.org_check.specs.declared.beside_kinds.BesideKind.TheVariants.{ByteOrderMark, ClockBeforeHeadings, ClockCase, ClockInList, CommaInKeywords, DiarySexp, HeadingWithoutSpace, HiddenPlanning, InactivePlanning, IndentedHeading, KeywordAfterCookie, KeywordOfOtherFile, MissingBar, MissingKeyword, NearKeyword, NearPlanning, NearRange, OddSpace, OverlappingClocks, PlanningCase, PlanningInHeading, PlanningRange, PlanningRest, RangeWithRepeater, RepeatedPlanning, RepeatedProperty, RepeaterOnDone, ReversedRange, ReversedTimes, SecondCategory, SettingInBlock, SettingWithoutColon, SpecialProperty, StampInBlock, StampInComment, StampInDrawer, StampInExample, StrayBlockEnd, UnreadEffort, UnreadPriority, UnreadSetting, UnreadTags, WordInCapitals, WrongDayName, ZeroRepeater}
use Rattle.org_check.specs.declared.kind.Kind.{Kind}
use Rattle.org_check.specs.declared.kind.Kind.TheVariants as kind
use Rattle.org_check.specs.declared.kind_sentences.TheConstants as the
use Rattle.org_check.specs.declared.table.Entry.{Entry}
use Rattle.org_check.specs.declared.table.Severity.{Severity}
use Rattle.org_check.specs.declared.table.Severity.TheVariants.{Error, Note, Warning}
use Rattle.org_check.specs.declared.unread_kinds.DrawerKind.{DrawerKind}
use Rattle.org_check.specs.declared.unread_kinds.DrawerKind.TheVariants.{DrawerLine, StrayDrawer, UnclosedDrawer}
use Rattle.org_check.specs.declared.unread_kinds.MinutesKind.{MinutesKind}
use Rattle.org_check.specs.declared.unread_kinds.MinutesKind.TheVariants.{EmptyClock, OpenClock, ReversedClock, RunningClock}
use Rattle.org_check.specs.declared.unread_kinds.PlanningKind.{PlanningKind}
use Rattle.org_check.specs.declared.unread_kinds.PlanningKind.TheVariants.{PlanningUnread, PlanningWithoutStamp, StrayPlanning}
use Rattle.org_check.specs.declared.unread_kinds.StampKind.{StampKind}
use Rattle.org_check.specs.declared.unread_kinds.StampKind.TheVariants.{BadRepeater, NoSuchDate, NoSuchTime, QuotedStamp, ShortDate, SpaceInStamp, UnclosedStamp, UnreadInactiveStamp, UnreadStamp}

-- what is said of a kind
pub record KindEntry : Type 0 where
  pub name : List ℕ
  pub severity : Severity
  pub is_usual : Bool
  pub quotes : Bool
  pub sentence : List ℕ

abbrev pub seen : Entry → KindEntry
seen e = record { name = e.name.now; severity = e.severity; is_usual = e.is_usual; quotes = e.quotes; sentence = e.sentence.now }

-- of this severity, looked for always, and without the text
abbrev pub always : Severity → List ℕ → List ℕ → KindEntry
always severity name sentence = record { name = name; severity = severity; is_usual = true; quotes = false; sentence = sentence }

-- the same, looked for only if it is asked for
abbrev pub rare : KindEntry → KindEntry
rare e = record e { is_usual = false }

-- the same, with the text in front
abbrev pub quoting : KindEntry → KindEntry
quoting e = record e { quotes = true }

abbrev pub stamp_entry : StampKind → KindEntry
stamp_entry NoSuchDate = quoting (always Error (codes "no-such-date") the.NO_SUCH_DATE.now)
stamp_entry NoSuchTime = quoting (always Error (codes "no-such-time") the.NO_SUCH_TIME.now)
stamp_entry BadRepeater = quoting (always Error (codes "bad-repeater") the.BAD_REPEATER.now)
stamp_entry ShortDate = quoting (always Error (codes "short-date") the.SHORT_DATE.now)
stamp_entry UnclosedStamp = quoting (always Error (codes "unclosed-stamp") the.UNCLOSED_STAMP.now)
stamp_entry SpaceInStamp = quoting (always Error (codes "space-in-stamp") the.SPACE_IN_STAMP.now)
stamp_entry UnreadStamp = quoting (always Error (codes "unread-stamp") the.UNREAD_STAMP.now)
stamp_entry UnreadInactiveStamp = quoting (rare (always Note (codes "unread-inactive-stamp") the.UNREAD_INACTIVE_STAMP.now))
stamp_entry QuotedStamp = quoting (rare (always Note (codes "quoted-stamp") the.QUOTED_STAMP.now))

abbrev pub planning_entry : PlanningKind → KindEntry
planning_entry StrayPlanning = always Error (codes "stray-planning") the.STRAY_PLANNING.now
planning_entry PlanningWithoutStamp = always Error (codes "planning-without-stamp") the.PLANNING_WITHOUT_STAMP.now
planning_entry PlanningUnread = rare (always Note (codes "planning-unread") the.PLANNING_UNREAD.now)

abbrev pub drawer_entry : DrawerKind → KindEntry
drawer_entry StrayDrawer = always Error (codes "stray-drawer") the.STRAY_DRAWER.now
drawer_entry DrawerLine = always Error (codes "drawer-line") the.DRAWER_LINE.now
drawer_entry UnclosedDrawer = always Error (codes "unclosed-drawer") the.UNCLOSED_DRAWER.now

abbrev pub minutes_entry : MinutesKind → KindEntry
minutes_entry RunningClock = always Warning (codes "running-clock") the.RUNNING_CLOCK.now
minutes_entry OpenClock = rare (always Note (codes "open-clock") the.OPEN_CLOCK.now)
minutes_entry ReversedClock = always Error (codes "reversed-clock") the.REVERSED_CLOCK.now
minutes_entry EmptyClock = rare (always Note (codes "empty-clock") the.EMPTY_CLOCK.now)

abbrev pub beside_entry : BesideKind → KindEntry
beside_entry WrongDayName = quoting (always Warning (codes "wrong-day-name") the.WRONG_DAY_NAME.now)
beside_entry ReversedRange = quoting (always Error (codes "reversed-range") the.REVERSED_RANGE.now)
beside_entry ReversedTimes = quoting (always Warning (codes "reversed-times") the.REVERSED_TIMES.now)
beside_entry RangeWithRepeater = quoting (always Warning (codes "range-with-repeater") the.RANGE_WITH_REPEATER.now)
beside_entry ZeroRepeater = quoting (always Warning (codes "zero-repeater") the.ZERO_REPEATER.now)
beside_entry NearRange = quoting (always Warning (codes "near-range") the.NEAR_RANGE.now)
beside_entry DiarySexp = always Error (codes "diary-sexp") the.DIARY_SEXP.now
beside_entry StampInDrawer = quoting (always Warning (codes "stamp-in-drawer") the.STAMP_IN_DRAWER.now)
beside_entry StampInBlock = quoting (always Warning (codes "stamp-in-block") the.STAMP_IN_BLOCK.now)
beside_entry StampInComment = quoting (rare (always Note (codes "stamp-in-comment") the.STAMP_IN_COMMENT.now))
beside_entry StampInExample = quoting (rare (always Note (codes "stamp-in-example") the.STAMP_IN_EXAMPLE.now))
beside_entry NearPlanning = quoting (always Warning (codes "near-planning") the.NEAR_PLANNING.now)
beside_entry HiddenPlanning = quoting (always Note (codes "hidden-planning") the.HIDDEN_PLANNING.now)
beside_entry PlanningCase = always Error (codes "planning-case") the.PLANNING_CASE.now
beside_entry InactivePlanning = quoting (always Error (codes "inactive-planning") the.INACTIVE_PLANNING.now)
beside_entry PlanningRest = always Error (codes "planning-rest") the.PLANNING_REST.now
beside_entry RepeatedPlanning = always Error (codes "repeated-planning") the.REPEATED_PLANNING.now
beside_entry PlanningInHeading = always Warning (codes "planning-in-heading") the.PLANNING_IN_HEADING.now
beside_entry PlanningRange = quoting (always Warning (codes "planning-range") the.PLANNING_RANGE.now)
beside_entry RepeaterOnDone = quoting (always Note (codes "repeater-on-done") the.REPEATER_ON_DONE.now)
beside_entry UnreadEffort = quoting (always Error (codes "unread-effort") the.UNREAD_EFFORT.now)
beside_entry RepeatedProperty = always Warning (codes "repeated-property") the.REPEATED_PROPERTY.now
beside_entry SpecialProperty = always Warning (codes "special-property") the.SPECIAL_PROPERTY.now
beside_entry StrayBlockEnd = quoting (always Warning (codes "stray-block-end") the.STRAY_BLOCK_END.now)
beside_entry SettingInBlock = rare (always Note (codes "setting-in-block") the.SETTING_IN_BLOCK.now)
beside_entry ByteOrderMark = always Error (codes "byte-order-mark") the.BYTE_ORDER_MARK.now
beside_entry SettingWithoutColon = always Error (codes "setting-without-colon") the.SETTING_WITHOUT_COLON.now
beside_entry SecondCategory = always Warning (codes "second-category") the.SECOND_CATEGORY.now
beside_entry CommaInKeywords = quoting (always Warning (codes "comma-in-keywords") the.COMMA_IN_KEYWORDS.now)
beside_entry MissingBar = quoting (always Warning (codes "missing-bar") the.MISSING_BAR.now)
beside_entry UnreadSetting = always Note (codes "unread-setting") the.UNREAD_SETTING.now
beside_entry KeywordOfOtherFile = quoting (always Error (codes "keyword-of-other-file") the.KEYWORD_OF_OTHER_FILE.now)
beside_entry MissingKeyword = quoting (always Warning (codes "missing-keyword") the.MISSING_KEYWORD.now)
beside_entry NearKeyword = quoting (always Warning (codes "near-keyword") the.NEAR_KEYWORD.now)
beside_entry WordInCapitals = quoting (rare (always Note (codes "word-in-capitals") the.WORD_IN_CAPITALS.now))
beside_entry OddSpace = always Error (codes "odd-space") the.ODD_SPACE.now
beside_entry HeadingWithoutSpace = always Warning (codes "heading-without-space") the.HEADING_WITHOUT_SPACE.now
beside_entry IndentedHeading = always Warning (codes "indented-heading") the.INDENTED_HEADING.now
beside_entry KeywordAfterCookie = quoting (always Error (codes "keyword-after-cookie") the.KEYWORD_AFTER_COOKIE.now)
beside_entry UnreadPriority = quoting (always Warning (codes "unread-priority") the.UNREAD_PRIORITY.now)
beside_entry UnreadTags = quoting (always Warning (codes "unread-tags") the.UNREAD_TAGS.now)
beside_entry ClockCase = always Error (codes "clock-case") the.CLOCK_CASE.now
beside_entry ClockInList = always Error (codes "clock-in-list") the.CLOCK_IN_LIST.now
beside_entry OverlappingClocks = always Warning (codes "overlapping-clocks") the.OVERLAPPING_CLOCKS.now
beside_entry ClockBeforeHeadings = always Warning (codes "clock-before-headings") the.CLOCK_BEFORE_HEADINGS.now

abbrev pub entry_of : Kind → KindEntry
entry_of (kind.Stamp k) = stamp_entry k
entry_of (kind.Planning k) = planning_entry k
entry_of (kind.Drawer k) = drawer_entry k
entry_of kind.UnclosedBlock = quoting (always Error (codes "unclosed-block") the.UNCLOSED_BLOCK.now)
entry_of kind.UnreadClock = always Error (codes "unread-clock") the.UNREAD_CLOCK.now
entry_of (kind.Minutes k) = minutes_entry k
entry_of (kind.Beside k) = beside_entry k

abbrev pub name_of : Kind → List ℕ
name_of k = (entry_of k).name

abbrev pub severity_of : Kind → Severity
severity_of k = (entry_of k).severity

abbrev pub is_usual : Kind → Bool
is_usual k = (entry_of k).is_usual

-- kinds are told apart by their names
abbrev pub has_name_of : Kind → Kind → Bool
has_name_of k one = bytes_eq (name_of one) (name_of k)

-- a kind is one of these
abbrev pub is_among : List Kind → Kind → Bool
is_among ks k = list_any (has_name_of k) ks
