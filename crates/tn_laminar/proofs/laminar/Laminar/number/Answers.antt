-- What shows the clauses of `Laminar::number` of `src/laminar.rt`.
use Rattle.std.proofs.Common.{rules, refl, ap, ◌∙◌, ◌<◌, length}
use Rattle.std.proofs.lemmas.Int.{to_z-of_z}
use Rattle.std.proofs.lemmas.Option.{slice_get_read}
use Rattle.std.proofs.lemmas.List.{length-map}
use mir.Syntax.{w32}
use mir.Val.{SFits}
use Rattle.tn_firm_laws.specs.Nested.{listed_from}
use Rattle.tn_laminar.specs.Masked.{masks_of}
use Rattle.tn_laminar.specs.WithinLemmas.{all_at}
use Rattle.tn_laminar.specs.Sum.{HasNumbersWithin}
use Rattle.tn_laminar.proofs.ValueLemmas.{number_by_masks, number_small}
use Rattle.tn_laminar.proofs.laminar.Laminar.number.Goals as goal

pub returns-clause-number : goal.returns-clause-number
returns-clause-number c =
    let set = slice_get_read c.args.self.now.sets.items (length c.args.self.now.sets.items) c.args.k c.index.result.now
    refl c.requires c.index.ensures in
    let masked = ap length c.args.self.now.laminar.masked
    ∙ length-map c.args.self.now.sets.items (λ set. masks_of c.args.self.now.buys set.members) in
    let inside : c.args.k < length c.args.self.now.masks.items = rw masked c.requires in
    let mask = slice_get_read c.args.self.now.masks.items (length c.args.self.now.masks.items) c.args.k
    c.index-2.result.now refl inside c.index-2.ensures in
    let fit : SFits w32 c.net.result = search rules in
    let number = simp to_z-of_z at c.number_at.ensures in
    number ∙ ap (listed_from c.index.result.now.low c.index.result.now.numbers) c.net.ensures.count
    ∙ number_by_masks c.args.self.now.buys c.args.self.now.sets.items c.args.self.now.masks.items c.args.x c.args.k
    c.index.result.now c.index-2.result.now
    c.args.self.now.laminar.masked set mask

pub returns-clause-small : goal.returns-clause-small
returns-clause-small c =
    let set = slice_get_read c.args.self.now.sets.items (length c.args.self.now.sets.items) c.args.k c.index.result.now
    refl c.requires c.index.ensures in
    number_small c.index.result.now _ c.number_at.result
    (all_at HasNumbersWithin c.args.self.now.sets.items c.args.k c.index.result.now c.args.self.now.laminar.numbered
    set) c.number_at.ensures
