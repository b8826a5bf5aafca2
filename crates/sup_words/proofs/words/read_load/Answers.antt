-- The numbers of a load are its options'.
use Rattle.std.proofs.Common.{rules, codes}
use Rattle.clap.specs.Walk.{rows_of}
use Rattle.clap.specs.Words.{found_of}
use Rattle.sup_words.proofs.Numbers.{is_number, no_number, no_load, load_read}
use Rattle.sup_words.proofs.words.read_load.Goals as goal

pub returns-in_err-workers : goal.returns-in_err-workers
returns-in_err-workers c = no_load (rows_of (found_of c.args.words.now)) c.from_residual.result (search rules) (λ w n r t are within.
    no_number (found_of c.args.words.now) (codes "workers") c.get_one.result c.get_one.ensures.none c.get_one.ensures.value (search rules) w are.workers)

pub returns-in_err-children : goal.returns-in_err-children
returns-in_err-children c = no_load (rows_of (found_of c.args.words.now)) c.from_residual-in_err-children.result (search rules) (λ w n r t are within.
    no_number (found_of c.args.words.now) (codes "children") c.get_one-2.result c.get_one-2.ensures.none c.get_one-2.ensures.value (search rules) n are.children)

pub returns-in_err-readers : goal.returns-in_err-readers
returns-in_err-readers c = no_load (rows_of (found_of c.args.words.now)) c.from_residual-in_err-readers.result (search rules) (λ w n r t are within.
    no_number (found_of c.args.words.now) (codes "readers") c.get_one-3.result c.get_one-3.ensures.none c.get_one-3.ensures.value (search rules) r are.readers)

pub returns-in_err-turns : goal.returns-in_err-turns
returns-in_err-turns c = no_load (rows_of (found_of c.args.words.now)) c.from_residual-in_err-turns.result (search rules) (λ w n r t are within.
    no_number (found_of c.args.words.now) (codes "turns") c.get_one-4.result c.get_one-4.ensures.none c.get_one-4.ensures.value (search rules) t are.turns)

pub returns : goal.returns
returns c =
    let f = found_of c.args.words.now in
    load_read (rows_of f) c.in_ok-workers.workers c.in_ok-children.children c.in_ok-readers.readers c.in_ok-turns.turns c.new.result
    (record {
      workers = is_number f (codes "workers") c.get_one.result c.get_one.ensures.none c.get_one.ensures.value c.in_ok-workers.workers (search rules);
      children = is_number f (codes "children") c.get_one-2.result c.get_one-2.ensures.none c.get_one-2.ensures.value c.in_ok-children.children (search rules);
      readers = is_number f (codes "readers") c.get_one-3.result c.get_one-3.ensures.none c.get_one-3.ensures.value c.in_ok-readers.readers (search rules);
      turns = is_number f (codes "turns") c.get_one-4.result c.get_one-4.ensures.none c.get_one-4.ensures.value c.in_ok-turns.turns (search rules);
    }) c.new.ensures
