use Rattle.std.proofs.Common.{◌+◌, sym, ap, ◌∙◌}
use Rattle.sup_format.proofs.Reading.FeedCounts.{count_full}
use Rattle.sup_format.proofs.read.input.line_after.Goals as goal

pub returns : goal.returns
returns c =
    let ended = c.ended_part-ended.result.now in
    let e = c.ended_part-ended.ensures in
    (ended, e, ap (λ n. n + 1) (c.count_feeds.ensures ∙ sym (count_full ended e.ended)))
