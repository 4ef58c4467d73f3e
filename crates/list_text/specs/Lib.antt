-- `Written` has the words of this crate's contracts: the text that rows tell, and what the functions ask of the rows.
pub mod Written
