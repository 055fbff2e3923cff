use Rattle.std.proofs.Common.{◌≡◌, List, get_or, sym, ap, ◌∙◌, None}
use Rattle.ct_shelf.specs.declared.mem_shelf.Entry.{Entry}
use Rattle.ct_shelf.specs.declared.mem_shelf.MemShelf.{MemShelf}
use Rattle.ct_shelf.specs.Memory.{mem_place, place_in}
use Rattle.ct_shelf.proofs.Entries.{no_entry, place_there, place_not_there, place_set, others_set, away_none, away_lent, home_there, found_there, not_away}
use Rattle.ct_shelf.proofs.mem_shelf.MemShelfShelf.find.Goals as goal

pub returns-in_default-clause-place : goal.returns-in_default-clause-place
returns-in_default-clause-place c =
    let name = c.args.name.now in
    let mid = c.begin-fails.new.self in
    let same : mem_place mid name ≡ mem_place c.args.self.now name = ap (λ (s : MemShelf). mem_place s name) c.begin-fails.ensures.new in
    away_none (mem_place c.args.self.now name) (mem_place mid name) (sym same ∙ place_not_there mid.entries.items name (sym c.position.ensures ∙ c.in_default.is)) same

pub returns-then-not-is_home-clause-place : goal.returns-then-not-is_home-clause-place
returns-then-not-is_home-clause-place c =
    let name = c.args.name.now in
    let mid = c.begin-fails.new.self in
    let x = (get_or mid.entries.items c.in-Some.at no_entry).device in
    let same : mem_place mid name ≡ mem_place c.args.self.now name = ap (λ (s : MemShelf). mem_place s name) c.begin-fails.ensures.new in
    let there = place_there mid.entries.items name c.in-Some.at no_entry (sym c.position.ensures ∙ c.in-Some.is) in
    away_lent x (mem_place c.args.self.now name) (mem_place mid name) (sym same ∙ there) (sym (c.is_home.ensures no_entry) ∙ c.if-not-is_home.true) same

pub returns-then-fails-clause-place : goal.returns-then-fails-clause-place
returns-then-fails-clause-place c =
    let name = c.args.name.now in
    let mid = c.begin-fails.new.self in
    let x = (get_or mid.entries.items c.in-Some.at no_entry).device in
    let same : mem_place mid name ≡ mem_place c.args.self.now name = ap (λ (s : MemShelf). mem_place s name) c.begin-fails.ensures.new in
    let there = place_there mid.entries.items name c.in-Some.at no_entry (sym c.position.ensures ∙ c.in-Some.is) in
    let counted : mem_place c.count_fault.new.self name ≡ mem_place mid name = ap (λ (s : MemShelf). mem_place s name) c.count_fault.ensures in
    home_there x (mem_place c.args.self.now name) (mem_place c.count_fault.new.self name) (sym same ∙ there) (sym (c.is_home.ensures no_entry) ∙ c.if-not-is_home.false) (counted ∙ same)

pub returns-in-Some-exchange-clause-place : goal.returns-in-Some-exchange-clause-place
returns-in-Some-exchange-clause-place c =
    let name = c.args.name.now in
    let mid = c.begin-fails.new.self in
    let at = c.in-Some.at in
    let x = (get_or mid.entries.items at no_entry).device in
    let same : mem_place mid name ≡ mem_place c.args.self.now name = ap (λ (s : MemShelf). mem_place s name) c.begin-fails.ensures.new in
    let here = sym c.position.ensures ∙ c.in-Some.is in
    let there = place_there mid.entries.items name at no_entry here in
    let gone = ap (λ (l : List Entry). place_in l name) (c.in-Some-exchange.ensures.entries no_entry) ∙ place_set mid.entries.items name at no_entry None here in
    found_there x c.in-Some-exchange.device (mem_place c.args.self.now name) (mem_place c.exchange.new.self name) (sym same ∙ there) (c.in-Some-exchange.ensures.device no_entry) gone

pub returns-in-Some-exchange-clause-others : goal.returns-in-Some-exchange-clause-others
returns-in-Some-exchange-clause-others c = λ other differ.
    let name = c.args.name.now in
    let mid = c.begin-fails.new.self in
    let at = c.in-Some.at in
    let same : mem_place mid other ≡ mem_place c.args.self.now other = ap (λ (s : MemShelf). mem_place s other) c.begin-fails.ensures.new in
    ap (λ (l : List Entry). place_in l other) (c.in-Some-exchange.ensures.entries no_entry)
    ∙ others_set mid.entries.items name at no_entry None (sym c.position.ensures ∙ c.in-Some.is) other differ ∙ same

pub returns-in-None-clause-place : goal.returns-in-None-clause-place
returns-in-None-clause-place c = not_away (get_or c.begin-fails.new.self.entries.items c.in-Some.at no_entry).device (sym (c.is_home.ensures no_entry) ∙ c.if-not-is_home.false) (c.in-None.ensures.device no_entry)

pub returns-in-None-clause-others : goal.returns-in-None-clause-others
returns-in-None-clause-others c = not_away (get_or c.begin-fails.new.self.entries.items c.in-Some.at no_entry).device (sym (c.is_home.ensures no_entry) ∙ c.if-not-is_home.false) (c.in-None.ensures.device no_entry)
