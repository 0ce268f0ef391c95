mod Defined
