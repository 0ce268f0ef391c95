mod Written
mod Judged
