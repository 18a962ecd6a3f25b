-- What shows the clauses of `sets_are_counted_and_summed` of `src/laws.rt`.
use Rattle.tn_base.proofs.SizeLemmas.{size-zero, size-toggle_in, size-toggle_out}
use Rattle.tn_base.proofs.SumLemmas.{sum_over-empty, sum_over-toggle_in, sum_over-toggle_out, sum_over-toggle_above}
use Rattle.tn_base.proofs.laws.sets_are_counted_and_summed.Goals as goal

pub returns : goal.returns
returns c = record {
  counted = record { none = size-zero; more = size-toggle_in; less = size-toggle_out };
  summed = record {
    none = sum_over-empty;
    more = sum_over-toggle_in;
    less = sum_over-toggle_out;
    above =
        sum_over-toggle_above;
  };
}
