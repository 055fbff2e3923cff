use Rattle.std.proofs.Common.{◌≡◌, ℕ, ◌+◌, max, List, true, cond, ltb, Some, None, ap, ◌∙◌, arith}
use Rattle.std.proofs.lemmas.Bool.{lt-ltb}
use Rattle.ct_page.specs.Fields.{with_u16, with_u64}
use Rattle.ct_dir.specs.MapPage.{entry_count, entry_place, entry_at, block, with_block}
use Rattle.ct_dir.proofs.Entries.{with_entry, entry_count-with_block, block-with_block}
use Rattle.ct_dir.specs.declared.map.MapEntry.{MapEntry}
use Rattle.ct_dir.proofs.map.set_block.Goals as goal

pub returns-clause-page : goal.returns-clause-page
unfolding with_entry
returns-clause-page c =
    let page = c.args.page.now in
    let entry = c.args.entry in
    let first = c.set_u64.ensures ∙ ap (λ p. with_u64 p entry.page page) c.entry_place-place.ensures in
    let both : c.set_u16.new.page ≡ with_entry c.args.at entry page = c.set_u16.ensures ∙ ap (λ p. with_u16 (p + 8) entry.used c.set_u64.new.page) c.entry_place-place.ensures ∙ ap (with_u16 (entry_place c.args.at + 8) entry.used) first in
    let count = c.entry_count.ensures in
    let most : c.max-count.result ≡ max (entry_count page) (c.args.at + 1) = c.max-count.ensures ∙ ap (λ n. max n (c.args.at + 1)) count in
    c.set_u16-2.ensures ∙ ap (λ n. with_u16 6 n c.set_u16.new.page) most ∙ ap (with_u16 6 (max (entry_count page) (c.args.at + 1))) both

pub returns-clause-count : goal.returns-clause-count
returns-clause-count c =
    let page = c.args.page.now in
    let is = returns-clause-page c in
    ap entry_count is ∙ entry_count-with_block c.args.at c.args.entry page c.told-page c.requires (omega arith)

pub returns-clause-block : goal.returns-clause-block
returns-clause-block c =
    let page = c.args.page.now in
    let is = returns-clause-page c in
    ap (λ p. block p c.args.at) is ∙ block-with_block c.args.at c.args.entry page c.told-page c.requires (omega arith) (omega arith) (omega arith)
