use Rattle.std.proofs.Common.{◌≡◌, ◌≤◌, All, length, max}
use Rattle.dim_signature.specs.Order.{IsRoom}
use Rattle.dim_signature.proofs.catalogue.add_rooms.Given as goal

abbrev pub invariant-loop : goal.invariant-loop
invariant-loop l = record {
  rooms : All IsRoom l.rooms.items;
  count : length l.rooms.items ≡ l.counter;
  low : length l.fn.rooms.items ≤ l.counter;
  high : l.counter ≤ max (length l.fn.rooms.items) l.places;
}
