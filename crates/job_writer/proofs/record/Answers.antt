-- `job_writer::record` meets its contract: the head in front and the words behind it are the record.
-- Assumes nothing.
use Rattle.job_writer.proofs.Recording.{degree-byte, front_long, words-fit, recorded, record-short}
use borrow.Author.Rules.{rules}
use Rattle.job_writer.proofs.record.Goals as goal

pub overflow_cast-m : goal.overflow_cast-m
overflow_cast-m c = let h = degree-byte _ c.requires.field in search rules

pub slice_bounds-put_words-end : goal.slice_bounds-put_words-end
slice_bounds-put_words-end c =
    let p = c in
    front_long p.requires _ p.polynomial.ensures

pub put_words-requires : goal.put_words-requires
put_words-requires c =
    let h = c in
    let p = h in
    words-fit p.requires _ p.polynomial.ensures h.put_head.ensures

pub overflow_cast-result : goal.overflow_cast-result
overflow_cast-result c =
    let p = c in
    let h = record-short p.requires _ p.polynomial.ensures
    c.put_words.ensures
    in
    search rules

pub returns : goal.returns
returns c =
    let h = c in
    let p = h in
    recorded p.requires _ p.polynomial.ensures h.put_head.ensures
    c.put_words.ensures
