-- What shows the clauses of `Middle::new` of `src/middle.rt`.
use Rattle.std.proofs.Common.{rules, ◌≡◌, length}
use Rattle.tn_base.specs.Table.{buys_of}
use Rattle.tn_base.proofs.TableLemmas.{buys_of_within}
use Rattle.tn_middle.proofs.middle.Middle.new.Goals as goal

pub invariant_of-result : goal.invariant_of-result
invariant_of-result c =
    let count : c.len.result ≡ length c.args.sides.items = search rules in
    let bought : c.purchases.result ≡ buys_of c.args.sides.items = search rules in
    let few = c.requires.few in
    record {
      middle = rw (count, bought) (record {
        few = c.requires.few;
        bought = buys_of_within c.args.sides.items;
        as_many = c.requires.as_many;
        small = c.requires.small;
        small_keep = c.requires.small_keep;
      });
    }
