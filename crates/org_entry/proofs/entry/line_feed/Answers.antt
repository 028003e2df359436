use Rattle.org_entry.proofs.LineLemmas.{feed_is}
use Rattle.org_entry.proofs.entry.line_feed.Goals as goal

pub returns : goal.returns
returns c = record { value = feed_is c.args.text.now c.memchr.result c.memchr.ensures }
