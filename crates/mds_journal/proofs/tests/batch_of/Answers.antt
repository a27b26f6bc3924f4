use Rattle.std.proofs.Common.{[], ◌∷◌, ◌++◌, ◌∙◌, sym, ap, List, ℕ, arith}
use Rattle.std.proofs.lemmas.List.{append-nil}
use Rattle.journal_format.specs.Bytes.{bytes_of}
use Rattle.journal_format.proofs.Listed.{bytes_of_all-cons}
use Rattle.mds_journal.proofs.tests.batch_of.Goals as goal

pub returns : goal.returns
returns c =
    let written = c.in_ok-encode.ensures.ok ∙ ap (λ (front : List ℕ). front ++ bytes_of c.args.entry.now) c.new-bytes.ensures.items in (
      c.args.entry.now ∷ [],
      record {
        within = (c.in_ok-encode.ensures.within, tt);
        some = omega arith;
        bytes_are = written ∙ sym (bytes_of_all-cons c.args.entry.now [] ∙ append-nil (bytes_of c.args.entry.now));
      },
    )
