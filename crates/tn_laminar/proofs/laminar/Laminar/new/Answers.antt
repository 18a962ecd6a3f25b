-- What shows the clauses of `Laminar::new` of `src/laminar.rt`.
use Rattle.std.proofs.Common.{rules, ◌≡◌, length, map}
use Rattle.tn_base.specs.Table.{buys_of}
use Rattle.tn_base.proofs.TableLemmas.{buys_of_within}
use Rattle.tn_laminar.specs.Faults.{AreSound}
use Rattle.tn_laminar.specs.Masked.{masks_of}
use Rattle.tn_laminar.proofs.laminar.Laminar.new.Goals as goal

pub returns-in_default-masks-clause-refused : goal.returns-in_default-masks-clause-refused
returns-in_default-masks-clause-refused c = rw c.deref.ensures.value at c.in_default.ensures

pub invariant_of-result : goal.invariant_of-result
invariant_of-result c =
    let sound : AreSound c.args.sets.items = rw c.deref.ensures.value at c.in_default.ensures in
    let count : c.len.result ≡ length c.args.sides.items = search rules in
    let bought : c.purchases-buys.result ≡ buys_of c.args.sides.items = search rules in
    let masked : c.in-Ok.masks.items ≡ map (λ set. masks_of c.purchases-buys.result set.members) c.args.sets.items =
    search rules in
    let few = c.requires.few in
    record {
      laminar = rw count (record {
        few = c.requires.few;
        bought = rw bought (buys_of_within c.args.sides.items);
        as_many = c.requires.as_many;
        small = c.requires.small;
        few_sets = c.requires.few_sets;
        own = c.requires.own;
        numbered = c.requires.numbered;
        sound = sound;
        masked = masked;
      });
    }
