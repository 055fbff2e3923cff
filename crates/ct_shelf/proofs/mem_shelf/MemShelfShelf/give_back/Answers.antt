use Rattle.std.proofs.Common.{List, Some, get_or, refl, sym, ap, ◌∙◌}
use Rattle.ct_shelf.specs.declared.mem_shelf.Entry.{Entry}
use Rattle.ct_shelf.specs.Memory.{mem_place, place_in}
use Rattle.ct_shelf.proofs.Entries.{no_entry, place_there, place_not_there, place_set, others_set, returned_lent, returned_home, returned_none}
use Rattle.ct_shelf.proofs.mem_shelf.MemShelfShelf.give_back.Goals as goal

pub returns-in_default-clause-place : goal.returns-in_default-clause-place
returns-in_default-clause-place c =
    let name = c.args.name.now in
    let shelf = c.args.self.now in
    returned_none c.args.device (mem_place shelf name) (mem_place shelf name) (place_not_there shelf.entries.items name (sym c.position.ensures ∙ c.in_default.is)) refl

pub returns-then-is_home-clause-place : goal.returns-then-is_home-clause-place
returns-then-is_home-clause-place c =
    let name = c.args.name.now in
    let shelf = c.args.self.now in
    let at = c.in-Some.at in
    let there = place_there shelf.entries.items name at no_entry (sym c.position.ensures ∙ c.in-Some.is) in
    returned_home (get_or shelf.entries.items at no_entry).device c.args.device (mem_place shelf name) (mem_place shelf name) there (sym (c.is_home.ensures no_entry) ∙ c.if-is_home.true) refl

pub returns-clause-place : goal.returns-clause-place
returns-clause-place c =
    let name = c.args.name.now in
    let shelf = c.args.self.now in
    let at = c.in-Some.at in
    let here = sym c.position.ensures ∙ c.in-Some.is in
    let there = place_there shelf.entries.items name at no_entry here in
    let back = ap (λ (l : List Entry). place_in l name) (c.exchange.ensures.entries no_entry) ∙ place_set shelf.entries.items name at no_entry (Some c.args.device) here in
    returned_lent (get_or shelf.entries.items at no_entry).device c.args.device (mem_place shelf name) (mem_place c.exchange.new.self name) there (sym (c.is_home.ensures no_entry) ∙ c.if-is_home.false) back

pub returns-clause-others : goal.returns-clause-others
returns-clause-others c = λ other differ.
    let name = c.args.name.now in
    let shelf = c.args.self.now in
    ap (λ (l : List Entry). place_in l other) (c.exchange.ensures.entries no_entry)
    ∙ others_set shelf.entries.items name c.in-Some.at no_entry (Some c.args.device) (sym c.position.ensures ∙ c.in-Some.is) other differ
