use Rattle.ct_page.proofs.HeaderLemmas.{kind_of-number_of, written_is_read, written_is_in_grammar, read_is_written}
use Rattle.ct_page.proofs.laws.headers_are_exact.Goals as goal

pub returns-clause-kinds : goal.returns-clause-kinds
returns-clause-kinds c = kind_of-number_of

pub returns-clause-again : goal.returns-clause-again
returns-clause-again c = written_is_read

pub returns-clause-grammar : goal.returns-clause-grammar
returns-clause-grammar c = written_is_in_grammar

pub returns-clause-back : goal.returns-clause-back
returns-clause-back c = read_is_written
