use Rattle.std.proofs.Common.{◌≡◌, get_or, ap, subst, ◌+◌, arith}
use Rattle.std.proofs.lemmas.List.{get_or_default}
use Rattle.module_area.specs.Meaning.{no_place, place_of}
use Rattle.module_area.specs.declared.places.Place.{Place}
use Rattle.brk_table.specs.Map.{entry_at, AreKept}
use Rattle.brk_table.proofs.MapLemmas.{map_more}
use Rattle.brk_table.proofs.map.enter_all.Goals as goal

pub loop-i-preserved : goal.loop-i-preserved
loop-i-preserved c =
    let same : (get_or c.args.places.now c.loop-i.i c.index-places-i.result).at ≡ (place_of c.args.places.now c.loop-i.i).at = ap (λ (p : Place). p.at) (get_or_default c.args.places.now c.loop-i.i c.index-places-i.result no_place (omega arith)) in
    map_more c.loop-i.pages c.loop-i.entries.items c.enter.new.pages c.enter.new.entries.items c.args.places.now c.loop-i.i c.requires.places (omega arith) c.loop-i.invariant c.in_ok-enter.ensures.pages c.in_ok-enter.ensures.room
    (subst (λ a. entry_at c.enter.new.pages c.enter.new.entries.items a ≡ c.loop-i.i + 1) same c.in_ok-enter.ensures.value)
    (subst (λ a. AreKept c.loop-i.pages c.loop-i.entries.items c.enter.new.pages c.enter.new.entries.items a) same c.in_ok-enter.ensures.kept)
