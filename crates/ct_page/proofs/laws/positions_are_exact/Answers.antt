use Rattle.std.proofs.Common.{inl, inr, arith}
use Rattle.ct_page.proofs.Numbers.{u64_at-with_u64, u16_at-with_u64_apart, u64_at-with_u64_apart}
use Rattle.ct_page.proofs.Positions.{byte_kept, behind_kept, grammar_kept, unwritten_grammar, last_position, own_position, page_kept}
use Rattle.ct_page.proofs.laws.positions_are_exact.Goals as goal

pub returns-clause-position : goal.returns-clause-position
returns-clause-position c = λ position page is_page small. u64_at-with_u64 8 position page (omega (arith, is_page.len)) small

pub returns-clause-same_file : goal.returns-clause-same_file
returns-clause-same_file c = λ position page is_page. u16_at-with_u64_apart 8 2 position page (omega (arith, is_page.len)) (inr (omega arith))

pub returns-clause-same_index : goal.returns-clause-same_index
returns-clause-same_index c = λ position page is_page. u16_at-with_u64_apart 8 4 position page (omega (arith, is_page.len)) (inr (omega arith))

pub returns-clause-same_count : goal.returns-clause-same_count
returns-clause-same_count c = λ position page is_page. u16_at-with_u64_apart 8 6 position page (omega (arith, is_page.len)) (inr (omega arith))

pub returns-clause-same_right : goal.returns-clause-same_right
returns-clause-same_right c = λ position page is_page. u64_at-with_u64_apart 8 16 position page (omega (arith, is_page.len)) (inl (omega arith))

pub returns-clause-same_kind : goal.returns-clause-same_kind
returns-clause-same_kind c = λ position page is_page. byte_kept 0 position page is_page (omega arith)

pub returns-clause-same_body : goal.returns-clause-same_body
returns-clause-same_body c = behind_kept

pub returns-clause-grammar : goal.returns-clause-grammar
returns-clause-grammar c = grammar_kept

pub returns-clause-unwritten : goal.returns-clause-unwritten
returns-clause-unwritten c = unwritten_grammar

pub returns-clause-last : goal.returns-clause-last
returns-clause-last c = last_position

pub returns-clause-own : goal.returns-clause-own
returns-clause-own c = own_position

pub returns-clause-page : goal.returns-clause-page
returns-clause-page c = page_kept
