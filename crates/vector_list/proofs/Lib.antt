-- Laws: what a list that keeps the rules is good for, for those who are given one.
pub mod Laws
