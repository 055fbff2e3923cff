use Rattle.std.proofs.Common.{◌≡◌, List, ℕ, Some, None, true, false, get_or, sym, ap, ◌∙◌}
use Rattle.std.specs.Prelude.{Option}
use Rattle.std.specs.Option.{is_some}
use Rattle.std.specs.List.{position}
use Rattle.ct_shelf.specs.declared.mem_shelf.Entry.{Entry}
use Rattle.ct_shelf.specs.declared.mem_shelf.MemShelf.{MemShelf}
use Rattle.ct_shelf.specs.Memory.{mem_place, place_in, is_named}
use Rattle.ct_shelf.specs.Shelf.{Place, free, IsTaken}
use Rattle.ct_disk.specs.declared.mem_disk.MemDisk.{MemDisk}
use Rattle.ct_shelf.proofs.Entries.{no_entry, place_there, place_not_there, place_added, others_added, taken_there}
use Rattle.ct_shelf.proofs.mem_shelf.MemShelfShelf.make.Goals as goal

taken_at : (at : Option ℕ) (entries : List Entry) (name : List ℕ) (old new : Place MemDisk) → at ≡ position (is_named name) entries → is_some at ≡ true → old ≡ place_in entries name → new ≡ old → IsTaken old × (new ≡ old)
taken_at (Some i) entries name old new is some there same = taken_there (get_or entries i no_entry).device old new (there ∙ place_there entries name i no_entry (sym is)) same
taken_at None entries name old new is some there same = absurd cc

free_at : (at : Option ℕ) (entries : List Entry) (name : List ℕ) → at ≡ position (is_named name) entries → is_some at ≡ false → place_in entries name ≡ free
free_at (Some i) entries name is none = absurd cc
free_at None entries name is none = place_not_there entries name (sym is)

pub returns-then-is_some-clause-place : goal.returns-then-is_some-clause-place
returns-then-is_some-clause-place c =
    let name = c.args.name.now in
    let mid = c.begin-fails.new.self in
    let same : mem_place mid name ≡ mem_place c.args.self.now name = ap (λ (s : MemShelf). mem_place s name) c.begin-fails.ensures.new in
    taken_at c.position.result mid.entries.items name (mem_place c.args.self.now name) (mem_place mid name) c.position.ensures (sym c.is_some.ensures ∙ c.if-is_some.true) (sym same) same

pub returns-then-fails-clause-place : goal.returns-then-fails-clause-place
returns-then-fails-clause-place c =
    let name = c.args.name.now in
    let mid = c.begin-fails.new.self in
    let same : mem_place mid name ≡ mem_place c.args.self.now name = ap (λ (s : MemShelf). mem_place s name) c.begin-fails.ensures.new in
    let counted : mem_place c.count_fault.new.self name ≡ mem_place mid name = ap (λ (s : MemShelf). mem_place s name) c.count_fault.ensures in
    (sym same ∙ free_at c.position.result mid.entries.items name c.position.ensures (sym c.is_some.ensures ∙ c.if-is_some.false), counted ∙ same)

pub returns-in-Ok-clause-place : goal.returns-in-Ok-clause-place
returns-in-Ok-clause-place c =
    let name = c.args.name.now in
    let mid = c.begin-fails.new.self in
    let same : mem_place mid name ≡ mem_place c.args.self.now name = ap (λ (s : MemShelf). mem_place s name) c.begin-fails.ensures.new in
    let none = free_at c.position.result mid.entries.items name c.position.ensures (sym c.is_some.ensures ∙ c.if-is_some.false) in
    (sym same ∙ none, ap (λ (l : List Entry). place_in l name) c.in-Ok.ensures.ok ∙ place_added mid.entries.items name none)

pub returns-in-Ok-clause-others : goal.returns-in-Ok-clause-others
returns-in-Ok-clause-others c = λ other differ.
    let name = c.args.name.now in
    let mid = c.begin-fails.new.self in
    let same : mem_place mid other ≡ mem_place c.args.self.now other = ap (λ (s : MemShelf). mem_place s other) c.begin-fails.ensures.new in
    ap (λ (l : List Entry). place_in l other) c.in-Ok.ensures.ok ∙ others_added mid.entries.items name other differ ∙ same
