-- Names and the ends of trades stop reading only with plain faults.
use Rattle.std.proofs.Common.{ℕ, ◌≤◌, List, [], ◌∷◌, length, Option, Some, refl}
use Rattle.std.specs.Prelude.{codes, nat_eq, not}
use Rattle.serde_json.specs.Data.{Data}
use Rattle.serde_json.specs.Find.{get}
use Rattle.tn_said.specs.declared.fault.FaultKind.TheVariants.{BadName, SameName, SelfTrade}
use Rattle.tn_model.specs.declared.ends.Ends.{Ends}
use Rattle.tn_said.specs.declared.place.PlaceStep.{PlaceStep}
use Rattle.tn_said.specs.declared.place.PlaceStep.TheVariants.{Index, Key}
use Rattle.tn_said.specs.declared.place.Word.TheVariants.{Firms, Trades, Name, Seller, Buyer}
use Rattle.tn_names.specs.Names.{NameLists, has_name, is_name, with_firm, with_trade}
use Rattle.tn_read_shapes.specs.declared.members.ObjectKind.TheVariants.{Trade as TradeObject}
use Rattle.tn_read_shapes.specs.Reading.{holds}
use Rattle.tn_read_shapes.specs.Shapes.{text_at, object_at, object_of}
use Rattle.tn_read_head.specs.Naming.{name_at, new_name, firm_name, trade_name, ends_at}
use Rattle.tn_read_references.specs.References.{firm_at}
use Rattle.tn_read_references.proofs.ReferenceStops.{firm_at_stops}
use Rattle.tn_read_references.specs.Ordered.{sides_of}
use Rattle.tn_read_shapes.proofs.StopLemmas.{StopsPlainly, IsPlain, IsPlainPlace, stops_ok, stops_bind, plain_holds}
use Rattle.tn_read_shapes.proofs.ShapeStops.{text_stops, object_at_stops, object_stops}

module _ (place : List PlaceStep) (plain : IsPlainPlace place) where
  pub name_stops : (value : Option Data) → StopsPlainly (name_at place value)
  unfolding name_at
  name_stops value =
      stops_bind IsPlain (text_at place value) _ (text_stops place plain value) (λ name.
      stops_bind IsPlain (holds BadName place (is_name name)) _ (plain_holds BadName place (is_name name) refl plain)
      (λ named. stops_ok IsPlain name))

  pub new_name_stops : (names : List (List ℕ)) (value : Option Data) → StopsPlainly (new_name names place value)
  unfolding new_name
  new_name_stops names value =
      stops_bind IsPlain (name_at place value) _ (name_stops value) (λ name.
      stops_bind IsPlain (holds SameName place (not (has_name names name))) _
      (plain_holds SameName place (not (has_name names name)) refl plain) (λ new. stops_ok IsPlain name))

-- the name of a firm, and that of a trade
pub firm_name_stops : (names : NameLists) (firm : Data) → length names.firms ≤ 16384
    → StopsPlainly (firm_name names firm)
unfolding firm_name
firm_name_stops names firm few =
    let place = Key Firms ∷ Index (length names.firms) ∷ [] in
    stops_bind IsPlain (object_at place (Some firm)) _ (object_at_stops place (tt, (few, tt)) (Some firm)) (λ object.
    stops_bind IsPlain (new_name names.firms (Key Firms ∷ Index (length names.firms) ∷ Key Name ∷ [])
    (get (codes "name") firm)) _
    (new_name_stops (Key Firms ∷ Index (length names.firms) ∷ Key Name ∷ []) (
      tt,
      (few, (tt, tt)),
    ) names.firms (get (codes "name") firm)) (λ name.
    stops_ok IsPlain (with_firm names name)))

pub trade_name_stops : (names : NameLists) (trade : Data) → length names.trades ≤ 16384
    → StopsPlainly (trade_name names trade)
unfolding trade_name
trade_name_stops names trade few =
    stops_bind IsPlain (object_of TradeObject (Key Trades ∷ Index (length names.trades) ∷ []) (Some trade)) _
    (object_stops (Key Trades ∷ Index (length names.trades) ∷ []) (tt, (few, tt)) TradeObject (Some trade))
    (λ object.
    stops_bind IsPlain (new_name names.trades (Key Trades ∷ Index (length names.trades) ∷ Key Name ∷ [])
    (get (codes "name") trade)) _
    (new_name_stops (Key Trades ∷ Index (length names.trades) ∷ Key Name ∷ []) (
      tt,
      (few, (tt, tt)),
    ) names.trades (get (codes "name") trade)) (λ name.
    stops_ok IsPlain (with_trade names name)))

-- the ends of a trade
pub ends_stop : (firms : List (List ℕ)) (before : List Ends) (t : ℕ) (trade : Data) → t ≤ 16384
    → StopsPlainly (ends_at firms before t trade)
unfolding ends_at
ends_stop firms before t trade few =
    stops_bind IsPlain (firm_at firms (Key Trades ∷ Index t ∷ Key Seller ∷ []) (get (codes "seller") trade)) _
    (firm_at_stops (Key Trades ∷ Index t ∷ Key Seller ∷ []) (
      tt,
      (few, (tt, tt)),
    ) firms (get (codes "seller") trade)) (λ seller.
    stops_bind IsPlain (firm_at firms (Key Trades ∷ Index t ∷ Key Buyer ∷ []) (get (codes "buyer") trade)) _
    (firm_at_stops (Key Trades ∷ Index t ∷ Key Buyer ∷ []) (
      tt,
      (few, (tt, tt)),
    ) firms (get (codes "buyer") trade)) (λ buyer.
    stops_bind IsPlain (holds SelfTrade (Key Trades ∷ Index t ∷ []) (not (nat_eq seller buyer))) _
    (plain_holds SelfTrade (Key Trades ∷ Index t ∷ []) (not (nat_eq seller buyer)) refl (tt, (few, tt))) (λ apart.
    stops_ok IsPlain (record {
      seller = seller;
      buyer = buyer;
      at_seller = length (sides_of before seller);
      at_buyer =
          length (sides_of before buyer);
    }))))
